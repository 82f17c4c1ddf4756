use Rattle.std.proofs.Common.{◌≡◌, take}
use Rattle.std.specs.Str.{chars}
use Rattle.utf16_units.specs.Encoding.{encode, size}
use Rattle.utf16_units.proofs.PrefixLemmas.{IsPrefixOf}
use Rattle.utf16_from_utf8.proofs.chars.write_chars.Given as goal

-- the bytes written so far are the encoding of the characters so far
abbrev pub invariant-loop-c : goal.invariant-loop-c
invariant-loop-c g l = record {
  begins : IsPrefixOf l.yielded (chars l.s);
  counted : l.len ≡ size l.yielded;
  written : take l.len l.buf ≡ encode g.E.Utf16Order.BIG l.yielded;
}
