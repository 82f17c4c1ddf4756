use Rattle.std.proofs.Common.{◌≡◌, length, ◌+◌, ◌*◌, ◌≤◌}
use Rattle.std.specs.Str.Chunks.{utf8_chunks_rest}
use Rattle.utf16_units.specs.Encoding.{size}
use Rattle.utf16_transcode.specs.FromUtf8.{text_of_utf8}
use Rattle.utf16_transcode.proofs.encode_lossy.from_utf8_lossy_len.Given as goal

-- the length so far and the length of the rest add up to the whole length, and no byte added more
-- than two
abbrev pub invariant-loop-chunk : goal.invariant-loop-chunk
invariant-loop-chunk l =
    (l.size + size (text_of_utf8 (utf8_chunks_rest l.chunk-iterator)) ≡ size (text_of_utf8 l.text))
    × (l.size + 2 * length (utf8_chunks_rest l.chunk-iterator) ≤ 2 * length l.text)
