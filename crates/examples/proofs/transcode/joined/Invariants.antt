use Rattle.std.proofs.Common.{◌≡◌, flat_map, take, vec_items}
use Rattle.examples.proofs.transcode.joined.Given as goal

abbrev pub invariant-loop-piece : goal.invariant-loop-piece
invariant-loop-piece g l = l.bytes.items ≡ flat_map vec_items (take l.piece-index l.pieces)
