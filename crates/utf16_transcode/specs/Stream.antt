-- A stream that comes in chunks: what is pending between them, and what a chunk adds.
use Rattle.std.specs.Prelude.{◌≡◌, ℕ, ◌≤◌, ◌⊎◌, Bool, List, [], ◌∷◌, ◌++◌, length, take, drop}
use Rattle.std.specs.Char.{encode_utf8}
use Rattle.utf16_transcode.specs.Decodes.{DecodesAs, utf16_split}
use Rattle.utf16_transcode.specs.StreamSplit.{StreamSplit, decided}
use Rattle.utf16_transcode.specs.Stops.{TextDoesNotFit}
use Rattle.utf16_transcode.specs.declared.progress.Stop.{Stop}
use Rattle.utf16_transcode.specs.declared.progress.Stop.TheVariants.{Incomplete, Done, IllFormed, NoSpace}
use Rattle.utf16_transcode.specs.declared.stream.Stream.{Stream}

-- `stream.pending()`
abbrev pub stream_pending : Stream → List ℕ
stream_pending stream = take stream.len stream.bytes

-- a stream at its beginning: all of its fields are zero
abbrev pub IsNewStream : Stream → Type 0
IsNewStream stream = (stream.bytes ≡ 0 ∷ 0 ∷ 0 ∷ []) × (stream.len ≡ 0)

-- the first bytes of a chunk were taken: some of the pending bytes and the chunk are decoded, and
-- what is shown for them is at the start of the buffer; the rest is the bytes that are pending
-- afterwards and what is left of the chunk
pub record FeedsAs (parts : StreamSplit) (into : ℕ → List ℕ) (pending piece left to : List ℕ) (read written : ℕ) : Type 0 where
  pub within : read ≤ length piece
  pub fits : written ≤ length to
  pub decodes : DecodesAs parts into (pending ++ piece) (left ++ drop read piece) [] (take written to)

-- why it stopped: all was taken and the tail of the split is pending; or the next character does
-- not fit, and only the decoded bytes were taken, first the pending ones and then those of the
-- chunk
abbrev pub StopsFeeding : StreamSplit → (ℕ → List ℕ) → List ℕ → List ℕ → List ℕ → ℕ → ℕ → Stop → Type 0
StopsFeeding parts into pending piece left read room Done = (read ≡ length piece) × (left ≡ parts.tail (pending ++ piece))
StopsFeeding parts into pending piece left read room (IllFormed len) = ⊥
StopsFeeding parts into pending piece left read room Incomplete = ⊥
StopsFeeding parts into pending piece left read room NoSpace =
    ((read ≡ 0) ⊎ (left ≡ [])) × TextDoesNotFit into (decided parts (left ++ drop read piece)) room

-- a step for UTF-16
abbrev pub Feeds : Bool → List ℕ → List ℕ → List ℕ → List ℕ → ℕ → ℕ → Type 0
Feeds big = FeedsAs (utf16_split big) encode_utf8
