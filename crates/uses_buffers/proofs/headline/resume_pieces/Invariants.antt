use Rattle.std.proofs.Common.{All, string_bytes, take}
use Rattle.std.specs.List.{flat_map}
use Rattle.std.specs.Vec.{vec_items}
use Rattle.uses_buffers.proofs.ReadLemmas.{IsByte, Told}
use Rattle.uses_buffers.proofs.headline.resume_pieces.Given as goal

-- the text so far is the text of the chunks so far, and their tail is kept
abbrev pub invariant-loop-piece : goal.invariant-loop-piece
invariant-loop-piece g l =
    let front = flat_map vec_items (take l.piece-index l.pieces) in
    Told g.E.Utf16Order.BIG front (string_bytes l.text) (vec_items l.rest) × All IsByte front
