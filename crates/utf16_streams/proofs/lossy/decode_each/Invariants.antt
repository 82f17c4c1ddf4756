use Rattle.std.proofs.Common.{◌≡◌, All, encode_utf8_all, string_bytes, take}
use Rattle.std.specs.List.{flat_map}
use Rattle.std.specs.Vec.{vec_items}
use Rattle.utf16_units.specs.Split.{lossy_chars, split_items, split_tail}
use Rattle.utf16_streams.specs.Lossy.{lossy_pending}
use Rattle.utf16_streams.proofs.StreamRules.{IsByte}
use Rattle.utf16_streams.proofs.lossy.decode_each.Given as goal

-- the text so far is the text of the chunks so far, their tail is pending, and they are bytes
abbrev pub invariant-loop-piece : goal.invariant-loop-piece
invariant-loop-piece g l =
    (string_bytes l.text ≡ encode_utf8_all (lossy_chars (split_items g.E.Utf16Order.BIG (flat_map vec_items (take l.piece-index l.pieces)))))
    × (lossy_pending l.decoder ≡ split_tail g.E.Utf16Order.BIG (flat_map vec_items (take l.piece-index l.pieces)))
    × All IsByte (flat_map vec_items (take l.piece-index l.pieces))
