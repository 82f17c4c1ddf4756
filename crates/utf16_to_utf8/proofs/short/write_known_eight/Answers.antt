use Rattle.std.proofs.Common.{refl, subst, arith}
use Rattle.utf16_units.specs.Lanes.{HasNoSurrogate, Paired}
use Rattle.utf16_units.proofs.PairLemmas.{PairedTo-next}
use Rattle.utf16_units.proofs.PlainLemmas.{no_surrogate-paired}
use Rattle.utf16_to_utf8.specs.declared.blocks.Kind.TheVariants.{Basic}
use Rattle.utf16_to_utf8.proofs.PlainLemmas.{plain-block}
use Rattle.utf16_to_utf8.proofs.WriterLemmas.{reached-next}
use Rattle.utf16_to_utf8.proofs.short.write_known_eight.Goals as goal

pub returns-clause-reached : goal.returns-clause-reached
returns-clause-reached g c =
    let units = c.args.units in
    reached-next 7 g.E.Utf16Order.BIG c.args.raw.now c.args.out.now _ units c.args.from _ c.requires.reached c.requires.more c.fits-units.0 c.requires.next refl c.write_eight_units-end.ensures.written_to refl
    (omega (arith, c.write_eight_units-end.ensures.written_to, c.write_eight_units-end.auto.out, c.requires.reached.short, c.requires.reached.within, c.requires.space)) c.write_eight_units-end.ensures.bytes

pub returns-clause-plain : goal.returns-clause-plain
returns-clause-plain g c none before =
    let plain = plain-block Basic c.args.units tt c.fits-units.1 (c.requires.none none) in
    PairedTo-next g.E.Utf16Order.BIG c.args.raw.now c.args.from.at 16 _ _ before refl c.requires.more (no_surrogate-paired _ (subst HasNoSurrogate c.requires.next plain))

pub returns-clause-pairs : goal.returns-clause-pairs
returns-clause-pairs g c before after start block =
    PairedTo-next g.E.Utf16Order.BIG c.args.raw.now c.args.from.at 16 before after start refl c.requires.more (subst (λ us. Paired before us after) c.requires.next block)
