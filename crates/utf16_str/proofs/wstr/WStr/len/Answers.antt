use Rattle.std.proofs.Common.{◌≡◌, ◌∙◌, ap, length, subst, sym}
use Rattle.utf16_units.specs.Boundary.{IsBoundary}
use Rattle.utf16_units.specs.Encoding.{size}
use Rattle.utf16_units.proofs.BoundaryLemmas.{IsBoundary-end}
use Rattle.utf16_units.proofs.EncodingLemmas.{length-encode}
use Rattle.utf16_str.specs.WStr.{wstr_text}
use Rattle.utf16_str.proofs.wstr.WStr.len.Given.{Over}
use Rattle.utf16_str.proofs.wstr.WStr.len.Goals as goal
use Rattle.utf16_str.proofs.wstr.WStr.len.Goals.{After-as_bytes}

long : (g : Over) (c : After-as_bytes g) → length c.as_bytes.result.now ≡ size (wstr_text c.args.self.now)
long g c = ap length (sym c.as_bytes.ensures.encoding.spelled) ∙ length-encode g.E.Utf16Order.BIG (wstr_text c.args.self.now)

pub returns-clause-size : goal.returns-clause-size
returns-clause-size g c = long g (goal.at.returns-clause-size g c).After-as_bytes

pub returns-clause-boundary : goal.returns-clause-boundary
returns-clause-boundary g c =
    subst (IsBoundary (wstr_text c.args.self.now)) (sym (long g (goal.at.returns-clause-boundary g c).After-as_bytes)) (IsBoundary-end (wstr_text c.args.self.now))
