use Rattle.std.proofs.Common.{◌≡◌, ◌+◌, ◌≤◌, ◌++◌, length}
use Rattle.utf16_units.specs.Encoding.{size}
use Rattle.utf8_bytes.specs.Split.{decided_text, split_tail}
use Rattle.utf16_transcode.specs.Stream.{stream_pending}
use Rattle.utf16string.specs.WString.{wstring_bytes, wstring_capacity, wstring_text}
use Rattle.utf16_tools.proofs.Utf8PartLemmas.{Leaves}
use Rattle.utf16_tools.proofs.utf8_parts.decode_parts.Given as goal

-- everything before the pending bytes and the rest is decoded, and what is left fits
abbrev pub invariant-loop-rest : goal.invariant-loop-rest
invariant-loop-rest g l =
    Leaves (stream_pending l.fn.stream ++ l.piece) (stream_pending l.stream ++ l.rest) (wstring_text l.fn.to) (wstring_text l.to)
    × (split_tail (stream_pending l.stream) ≡ stream_pending l.stream)
    × (length (wstring_bytes l.to) + size (decided_text (stream_pending l.stream ++ l.rest))
    ≡ length (wstring_bytes l.fn.to) + size (decided_text (stream_pending l.fn.stream ++ l.piece)))
    × (wstring_capacity l.fn.to ≤ wstring_capacity l.to)

abbrev pub decreases-loop-rest : goal.decreases-loop-rest
decreases-loop-rest g l = length l.rest
