use Rattle.std.proofs.Common.{◌≡◌}
use Rattle.std.specs.Str.{chars}
use Rattle.utf16_units.specs.Encoding.{size}
use Rattle.utf16_units.proofs.PrefixLemmas.{IsPrefixOf}
use Rattle.utf16_units.proofs.size.utf16_len_by_chars.Given as goal

-- the length so far is the length of the characters so far
abbrev pub invariant-loop-c : goal.invariant-loop-c
invariant-loop-c l = record {
  begins : IsPrefixOf l.yielded (chars l.s);
  counted : l.len ≡ size l.yielded;
}
