use Rattle.std.proofs.Common.{◌*◌, ◌∷◌, [], ◌∙◌, ap, arith, sym}
use Rattle.std.proofs.lemmas.List.{length-set, take_more_set}
use Rattle.std.proofs.lemmas.List.Elements.{All-cons, All-nil}
use Rattle.utf16_units.specs.Lanes.{IsNoSurrogate}
use Rattle.utf16_units.proofs.UnitsUpTo.{units_of-one}
use Rattle.utf16_fixed.proofs.PlainLemmas.{IsNoSurrogate-of, IsWidened-more}
use Rattle.utf16_fixed.proofs.plain.PlainBlock1.write.Goals as goal

pub returns-clause-written : goal.returns-clause-written
returns-clause-written g c before done =
    let big = g.E.Utf16Order.BIG in
    let raw = c.args.raw.now in
    let to = c.args.to.now in
    let at = c.args.at in
    let unit = c.read_unit-unit.result in
    IsWidened-more big raw to at done 1 1 _ (unit ∷ []) (omega arith) (omega (arith, c.requires.within)) (omega (arith, c.requires.fits, length-set to at unit))
    (ap (λ u. u ∷ []) c.read_unit-unit.ensures ∙ sym (units_of-one big raw (2 * at) (omega (arith, c.requires.within))))
    (All-cons IsNoSurrogate unit [] (IsNoSurrogate-of unit c.if-unit-eq27.false) (All-nil IsNoSurrogate))
    (take_more_set to at unit (omega (arith, c.requires.fits)))
