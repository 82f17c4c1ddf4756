use Rattle.std.proofs.Common.{◌≡◌, ◌++◌, length, string_bytes}
use Rattle.utf16_units.specs.Split.{split_tail}
use Rattle.utf16_transcode.specs.Decodes.{Decodes}
use Rattle.utf16_transcode.specs.Stream.{stream_pending}
use Rattle.utf16_streams.proofs.lossy.decode_parts.Given as goal

-- everything before the pending bytes and the rest is decoded
abbrev pub invariant-loop-rest : goal.invariant-loop-rest
invariant-loop-rest g l =
    Decodes g.E.Utf16Order.BIG (stream_pending l.fn.stream ++ l.piece) (stream_pending l.stream ++ l.rest) (string_bytes l.fn.to) (string_bytes l.to)
    × (split_tail g.E.Utf16Order.BIG (stream_pending l.stream) ≡ stream_pending l.stream)

abbrev pub decreases-loop-rest : goal.decreases-loop-rest
decreases-loop-rest g l = length l.rest
