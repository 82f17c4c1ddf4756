use Rattle.std.proofs.Common.{slice_index, refl, ap, ◌∙◌, subst, arith}
use Rattle.std.proofs.lemmas.Simd.{get_or-chunk}
use lib.Lanes.{chunk}
use Rattle.utf16_units.specs.Lanes.{HasNoSurrogate, Paired}
use Rattle.utf16_units.proofs.PairLemmas.{PairedTo-next}
use Rattle.utf16_units.proofs.PlainLemmas.{PairedTo-plain}
use Rattle.utf16_to_utf8.proofs.PlainLemmas.{plain-block}
use Rattle.utf16_to_utf8.proofs.WriterLemmas.{reached-next}
use Rattle.utf16_to_utf8.proofs.runs.write_block.Goals as goal

pub returns-clause-advanced : goal.returns-clause-advanced
returns-clause-advanced g c =
    let big = g.E.Utf16Order.BIG in
    let raw = c.args.raw.now in
    let units = c.args.units in
    let put = c.write_units-end in
    let last = ap (λ us. slice_index us 7) (c.eights.ensures.high ∙ ap (chunk 8 8) c.sixteens.ensures.high) ∙ get_or-chunk 8 8 (chunk 16 16 units) 7 0 (omega arith) ∙ get_or-chunk 16 16 units 15 0 (omega arith) in
    record {
      reached = reached-next 31 big raw c.args.out.now _ units c.args.from _ c.requires.reached c.requires.more c.fits-units.0 c.requires.next refl put.ensures.written_to last
          (omega (arith, put.ensures.written_to, put.auto.out, c.requires.space)) put.ensures.bytes;
      advances = omega arith;
      paired = λ plain before. PairedTo-plain big raw c.args.from.at before c.requires.more (subst HasNoSurrogate c.requires.next (plain-block c.args.kind units plain c.fits-units.1 c.requires.kind));
    }

pub returns-clause-pairs : goal.returns-clause-pairs
returns-clause-pairs g c before after start block =
    PairedTo-next g.E.Utf16Order.BIG c.args.raw.now c.args.from.at 64 before after start refl c.requires.more (subst (λ us. Paired before us after) c.requires.next block)
