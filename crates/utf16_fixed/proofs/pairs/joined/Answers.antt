use Rattle.std.proofs.Common.{false, ◌^◌, ◌∙◌, ap, arith, subst, sym, Fits, w16}
use lib.Lanes.{Each1, digits_l, number_l}
use Rattle.utf16_units.proofs.BlockUnits.{bytes-written}
use Rattle.utf16_fixed.specs.Pairs.{joined}
use Rattle.utf16_fixed.proofs.PairLemmas.{joined-read, units-fit}
use Rattle.utf16_fixed.proofs.pairs.joined.Goals as goal

pub returns-clause-units : goal.returns-clause-units
returns-clause-units g c =
    let units = c.units16 in
    let fit = subst (Each1 (Fits w16)) (sym units.ensures.units) (units-fit g.E.Utf16Order.BIG c.args.block c.fits-block.1) in
    ap (λ bytes. digits_l (2 ^ 32) 8 (number_l 256 bytes)) (bytes-written false 16 units.result units.ensures.len fit)
    ∙ joined-read 8 units.result (omega (arith, units.ensures.len)) fit ∙ ap joined units.ensures.units
