use Rattle.std.proofs.Common.{◌≡◌, ◌↔◌, map}
use Rattle.std.specs.Char.{to_ascii_lowercase}
use Rattle.utf16_str.specs.WStr.{wstr_text}
use Rattle.utf16_str.proofs.wstr.WStr.eq_ignore_ascii_case.Given as goal

-- the texts are the same in lower case exactly if the rests are
abbrev pub invariant-loop-c : goal.invariant-loop-c
invariant-loop-c g l =
    (map to_ascii_lowercase (wstr_text l.self) ≡ map to_ascii_lowercase (wstr_text l.other))
    ↔ (map to_ascii_lowercase l.c-iterator ≡ map to_ascii_lowercase l.theirs)
