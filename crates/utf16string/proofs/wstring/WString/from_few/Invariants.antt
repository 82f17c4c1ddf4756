use Rattle.std.proofs.Common.{◌≡◌}
use Rattle.std.specs.Str.{chars}
use Rattle.std.specs.Vec.{vec_capacity}
use Rattle.utf16_units.specs.Encoding.{encode, size}
use Rattle.utf16_units.proofs.PrefixLemmas.{IsPrefixOf}
use Rattle.utf16string.proofs.wstring.WString.from_few.Given as goal

-- the bytes are the encoding of the characters so far, and the capacity is the size of all
-- characters
abbrev pub invariant-loop-c : goal.invariant-loop-c
invariant-loop-c g l = record {
  begins : IsPrefixOf l.yielded (chars l.s);
  written : l.raw.items ≡ encode g.E.Utf16Order.BIG l.yielded;
  exact : vec_capacity l.raw ≡ size (chars l.s);
}
