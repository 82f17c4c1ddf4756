use Rattle.std.proofs.Common.{arith}
use Rattle.std.proofs.lemmas.List.Folds.{length-flat_map-take}
use Rattle.std.specs.Vec.{vec_items}
use Rattle.examples.proofs.transcode.joined.Goals as goal

pub returns-in_err-extend_from_slice-clause-nothing : goal.returns-in_err-extend_from_slice-clause-nothing
returns-in_err-extend_from_slice-clause-nothing g c none =
    let short = length-flat_map-take vec_items c.args.pieces.now c.loop-piece.piece-index c.piece-item.result c.loop-piece-test.true in
    grind (arith, short, none, c.loop-piece.invariant, c.deref.ensures.value, c.piece-item.is, c.in_err-extend_from_slice.ensures.full)
