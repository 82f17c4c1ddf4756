use Rattle.std.proofs.Common.{refl}
use Rattle.utf16_str.proofs.wstr.WStr.part.Goals as goal

pub part_unchecked-requires : goal.part_unchecked-requires
part_unchecked-requires g c =
    (c.if-start-end.true, c.is_char_boundary.ensures.0 c.if-is_char_boundary.true, c.is_char_boundary-then-is_char_boundary.ensures.0 c.if-is_char_boundary-2.true)

pub returns-then-is_char_boundary-2-clause-some : goal.returns-then-is_char_boundary-2-clause-some
returns-then-is_char_boundary-2-clause-some g c =
    (λ _. (c.if-start-end.true, c.is_char_boundary.ensures.0 c.if-is_char_boundary.true, c.is_char_boundary-then-is_char_boundary.ensures.0 c.if-is_char_boundary-2.true), λ _. refl)
