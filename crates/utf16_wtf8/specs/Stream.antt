-- A stream of WTF-8 that comes in chunks: what is pending between them, and what a chunk adds.
use Rattle.std.specs.Prelude.{◌≡◌, ℕ, ◌+◌, ◌-◌, ◌≤◌, ◌⊎◌, Bool, List, [], ◌∷◌, ◌++◌, All, length, take, drop}
use Rattle.std.specs.List.{flat_map}
use Rattle.utf16_units.specs.Unit.{IsLeading}
use Rattle.utf16_transcode.specs.declared.progress.Stop.{Stop}
use Rattle.utf16_transcode.specs.declared.progress.Stop.TheVariants.{Incomplete, Done, IllFormed, NoSpace}
use Rattle.utf16_wtf8.specs.FromWtf8.{StopsFromWtf8Partial, TranscodesFromWtf8}
use Rattle.utf16_wtf8.specs.Laws.{IsTruncated}
use Rattle.utf16_wtf8.specs.Wtf8.{generalized_utf8}
use Rattle.utf16_wtf8.specs.declared.stream.Wtf8Stream.{Wtf8Stream}

-- `stream.pending()`
abbrev pub wtf8_pending : Wtf8Stream → List ℕ
wtf8_pending stream = take stream.len stream.bytes

-- what a call leaves pending: at most one leading surrogate, and then the beginning of a code point,
-- which may have no bytes
pub record IsWtf8Tail (pending : List ℕ) : Type 0 where
  pub leads : List ℕ
  pub leading : All IsLeading leads
  pub one : length leads ≤ 1
  pub part : List ℕ
  pub truncated : IsTruncated part
  pub is : pending ≡ flat_map generalized_utf8 leads ++ part

-- why a stream ends with these bytes of a code point pending
abbrev pub end_stop : List ℕ → Stop
end_stop [] = Done
end_stop (byte ∷ bytes) = Incomplete

-- the first bytes of a chunk were taken: the first of the pending bytes and the chunk are encoded,
-- and their UTF-16 is at the start of the buffer; the rest is the bytes that are pending afterwards
-- and what is left of the chunk
pub record FeedsWtf8 (big : Bool) (pending chunk left to : List ℕ) (read written : ℕ) : Type 0 where
  pub within : read ≤ length chunk
  pub fits : written ≤ length to
  pub front : List ℕ
  pub splits : pending ++ chunk ≡ front ++ (left ++ drop read chunk)
  pub gives : TranscodesFromWtf8 big front (take written to)

-- the number of bytes that were encoded, of the pending ones and the chunk
abbrev pub encoded_len : List ℕ → List ℕ → ℕ → ℕ
encoded_len pending left read = length pending + read - length left

-- why it stopped: all was taken, and what a call leaves at the end is pending; or only the encoded
-- bytes were taken, first the pending ones and then the chunk's
abbrev pub StopsFeedingWtf8 : Bool → List ℕ → List ℕ → List ℕ → ℕ → ℕ → Stop → Type 0
StopsFeedingWtf8 big pending chunk left read room Done =
    (read ≡ length chunk)
    × (StopsFromWtf8Partial big (pending ++ chunk) (encoded_len pending left read) room Done
    ⊎ StopsFromWtf8Partial big (pending ++ chunk) (encoded_len pending left read) room Incomplete)
StopsFeedingWtf8 big pending chunk left read room (IllFormed len) =
    ((read ≡ 0) ⊎ (left ≡ [])) × StopsFromWtf8Partial big (pending ++ chunk) (encoded_len pending left read) room (IllFormed len)
StopsFeedingWtf8 big pending chunk left read room Incomplete = ⊥
StopsFeedingWtf8 big pending chunk left read room NoSpace =
    ((read ≡ 0) ⊎ (left ≡ [])) × StopsFromWtf8Partial big (pending ++ chunk) (encoded_len pending left read) room NoSpace
