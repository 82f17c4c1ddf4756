use Rattle.std.proofs.Common.{◌+◌, ◌∙◌, ap, arith, rules, subst, sym}
use Rattle.utf16_units.proofs.BoundaryLemmas.{IsBoundary-within}
use Rattle.utf16_units.proofs.EncodingLemmas.{IsUtf16-from_is_utf16, length-text}
use Rattle.utf16_units.specs.Boundary.{IsBoundary}
use Rattle.utf16_str.specs.WStr.{wstr_text}
use Rattle.utf16_str.proofs.wstr.WStr.fits.Goals as goal

pub returns-in_default : goal.returns-in_default
returns-in_default g c = (
  (λ never. search rules),
  λ both. absurd (c.in_default.ensures (omega (arith, IsBoundary-within (wstr_text c.args.self) _ both.1, length-text _ _ (IsUtf16-from_is_utf16 _ _ c.args.self.well_formed), c.len.ensures.size, c.ranges.self.0))),
)

pub returns-then-is_char_boundary : goal.returns-then-is_char_boundary
returns-then-is_char_boundary g c =
    let at = c.in-Some.ensures.1 ∙ ap (λ n. c.args.idx + n) c.len.ensures.size in (
      λ yes. (c.is_char_boundary.ensures.0 c.if-is_char_boundary.true, subst (IsBoundary (wstr_text c.args.self)) at (c.is_char_boundary-then-is_char_boundary.ensures.0 yes)),
      λ both. c.is_char_boundary-then-is_char_boundary.ensures.1 (subst (IsBoundary (wstr_text c.args.self)) (sym at) both.1),
    )
