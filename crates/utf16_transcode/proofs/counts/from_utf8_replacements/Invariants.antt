use Rattle.std.proofs.Common.{◌≡◌, ◌+◌, ◌≤◌, length}
use Rattle.std.specs.Str.Chunks.{utf8_chunks_rest}
use Rattle.utf16_transcode.specs.Replaced.{ill_formed_utf8_count}
use Rattle.utf16_transcode.proofs.counts.from_utf8_replacements.Given as goal

-- those so far and those of the rest add up to all, and each so far took a byte
abbrev pub invariant-loop-chunk : goal.invariant-loop-chunk
invariant-loop-chunk l =
    (l.count + ill_formed_utf8_count (utf8_chunks_rest l.chunk-iterator) ≡ ill_formed_utf8_count l.text)
    × (l.count + length (utf8_chunks_rest l.chunk-iterator) ≤ length l.text)
