use Rattle.std.proofs.Common.{◌*◌, arith, refl, subst}
use Rattle.std.proofs.lemmas.List.{take_rest}
use Rattle.utf16_units.proofs.EncodingLemmas.{IsUtf16-from_Encodes}
use Rattle.utf16_fixed.specs.StopsLatin1.{StopsLatin1Here}
use Rattle.utf16_fixed.proofs.NarrowLemmas.{narrowed-text}
use Rattle.utf16_fixed.proofs.StopLemmas.{all_written, stops_there}
use Rattle.utf16_fixed.proofs.narrow.to_latin1.Goals as goal

pub returns-clause-encoding : goal.returns-clause-encoding
returns-clause-encoding g c =
    let units = c.write_latin1-written in
    narrowed-text g.E.Utf16Order.BIG c.args.raw.now c.args.to.now units.new.to units.result units.ensures.narrowed c.type_inv.raw c.type_inv.to

pub returns-clause-stop : goal.returns-clause-stop
returns-clause-stop g c =
    let big = g.E.Utf16Order.BIG in
    let raw = c.args.raw.now in
    let units = c.write_latin1-written in
    let text = IsUtf16-from_Encodes big _ _ (narrowed-text big raw c.args.to.now units.new.to units.result units.ensures.narrowed c.type_inv.raw c.type_inv.to) in
    stops_there big raw units.new.to units.result units.ensures.narrowed.within units.ensures.stop text c.stop_before.result
    (subst (λ rest. StopsLatin1Here big rest c.stop_before.result) (take_rest raw (2 * units.result)) c.stop_before.ensures)

pub returns-clause-succeeds : goal.returns-clause-succeeds
returns-clause-succeeds g c text all room =
    let units = c.write_latin1-written in
    let fits = units.ensures.narrowed.fits in
    all_written g.E.Utf16Order.BIG c.args.raw.now units.new.to (2 * units.result) units.result (returns-clause-encoding g c) text all _ c.stop_before.result
    refl (omega (arith, room, fits)) (returns-clause-stop g c)
