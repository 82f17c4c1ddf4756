use Rattle.std.proofs.Common.{◌∙◌, refl, sym}
use Rattle.utf16_str.proofs.wstr.WStr.split_at_checked.Goals as goal

pub split_at-requires : goal.split_at-requires
split_at-requires g c = c.is_char_boundary.ensures.0 c.if-is_char_boundary.true

pub returns-then-is_char_boundary-clause-some : goal.returns-then-is_char_boundary-clause-some
returns-then-is_char_boundary-clause-some g c = (λ _. c.is_char_boundary.ensures.0 c.if-is_char_boundary.true, λ _. refl)

pub returns-else-is_char_boundary-clause-some : goal.returns-else-is_char_boundary-clause-some
returns-else-is_char_boundary-clause-some g c =
    (λ never. c.is_char_boundary.ensures.0 (c.if-is_char_boundary.false ∙ never), λ at. sym c.if-is_char_boundary.false ∙ c.is_char_boundary.ensures.1 at)
