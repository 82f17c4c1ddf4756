use Rattle.std.proofs.Common.{◌≡◌, ◌↔◌, All}
use Rattle.std.specs.Char.{IsScalar}
use Rattle.std.specs.Prelude.{chars}
use Rattle.std.specs.Str.Iter.{chars_rest}
use Rattle.utf16_str.specs.WStr.{wstr_text}
use Rattle.utf16_str.proofs.wstr.WStr.eq_str.Given as goal

-- the texts are equal exactly if the rests are
abbrev pub invariant-loop-c : goal.invariant-loop-c
invariant-loop-c g l = record {
  scalars : All IsScalar l.c-iterator;
  same : (wstr_text l.self ≡ chars l.s) ↔ (l.c-iterator ≡ chars (chars_rest l.theirs));
}
