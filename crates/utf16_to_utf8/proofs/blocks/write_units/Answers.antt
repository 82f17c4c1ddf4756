use Rattle.std.proofs.Common.{◌++◌, take, slice_index, ap, ap₂, ◌∙◌, arith}
use Rattle.std.proofs.lemmas.Simd.{get_or-chunk}
use Rattle.utf16_to_utf8.specs.Block.{IsOfKind}
use Rattle.utf16_to_utf8.specs.Utf8.{units_utf8}
use Rattle.utf16_to_utf8.proofs.BlockLemmas.{both_halves, kind_of-part}
use Rattle.utf16_to_utf8.proofs.blocks.write_units.Goals as goal

pub write_group-end-requires-clause-kind : goal.write_group-end-requires-clause-kind
write_group-end-requires-clause-kind c = kind_of-part (IsOfKind c.args.kind) 16 0 c.args.units _ (omega (arith, c.fits-units.0)) c.sixteens.ensures.low c.requires.kind

pub write_group-requires-clause-kind : goal.write_group-requires-clause-kind
write_group-requires-clause-kind c = kind_of-part (IsOfKind c.args.kind) 16 16 c.args.units _ (omega (arith, c.fits-units.0)) c.sixteens.ensures.high c.requires.kind

pub returns-clause-bytes : goal.returns-clause-bytes
returns-clause-bytes c =
    let units = c.args.units in
    let first = c.sixteens.result.0 in
    let start = take c.args.at c.args.out.now in
    let before = c.write_group-end.ensures.bytes ∙ ap₂ (λ last us. start ++ units_utf8 last us) c.doubled.ensures c.sixteens.ensures.low in
    let last = ap (λ us. slice_index us 15) c.sixteens.ensures.low ∙ get_or-chunk 0 16 units 15 0 (omega arith) in
    both_halves 15 (slice_index c.args.previous 7) units start _ _ c.fits-units.0 before
    (c.write_group.ensures.bytes ∙ ap₂ (λ last us. take c.write_group-end.result c.write_group-end.new.out ++ units_utf8 last us) last c.sixteens.ensures.high)
