use Rattle.std.proofs.Common.{string_bytes, take}
use Rattle.std.specs.List.{flat_map}
use Rattle.std.specs.Vec.{vec_items}
use Rattle.utf16_tools.specs.Lossy.{lossy_pending}
use Rattle.uses_buffers.proofs.ReadLemmas.{Told}
use Rattle.uses_buffers.proofs.headline.fed.Given as goal

-- the text so far is the text of the chunks so far, and their tail is pending
abbrev pub invariant-loop-piece : goal.invariant-loop-piece
invariant-loop-piece g l =
    Told g.E.Utf16Order.BIG (flat_map vec_items (take l.piece-index l.pieces)) (string_bytes l.text) (lossy_pending l.decoder)
