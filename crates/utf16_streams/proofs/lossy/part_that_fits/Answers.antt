use Rattle.std.proofs.Common.{◌≤◌, ◌++◌, length, length-append, length-take-le, ap, sym, ◌∙◌, subst, arith, rules}
use Rattle.utf16_units.proofs.FirstChar.{AreBytes}
use Rattle.utf16_units.proofs.SplitIllFormed.{AreBytes-take}
use Rattle.utf16_streams.proofs.PartLemmas.{AreBytes-append, shown_most, shown_utf8}
use Rattle.utf16_streams.proofs.lossy.part_that_fits.Given.{Over}
use Rattle.utf16_streams.proofs.lossy.part_that_fits.Goals as goal

are : (g : Over) (c : goal.After-split_at g) → AreBytes (c.args.pending.now ++ c.split_at.result.0.now)
are g c =
    let part = AreBytes-take c.min.result c.args.piece.now (λ k. omega (arith, c.type_inv.piece k)) in
    AreBytes-append _ _ (λ k. omega (arith, c.type_inv.pending k)) (subst AreBytes (sym c.split_at.ensures.front) part)

pub returns-clause-utf8 : goal.returns-clause-utf8
returns-clause-utf8 g c = shown_utf8 _ _ (are g c)

pub returns-clause-within : goal.returns-clause-within
returns-clause-within g c =
    let both = length-append c.args.pending.now c.split_at.result.0.now in
    let within : c.min.result ≤ length c.args.piece.now = search rules in
    let part = ap length c.split_at.ensures.front ∙ length-take-le c.min.result c.args.piece.now within in
    omega (arith, shown_most g.E.Utf16Order.BIG _ (are g c), c.min.ensures, c.requires.few)
