-- An input that is converted in several calls, each with the bytes that the call before left.
use Rattle.std.specs.Prelude.{◌≡◌, ◌≢◌, ℕ, ◌+◌, ◌-◌, ◌≤◌, Bool, List, [], ◌∷◌, ◌++◌, Option, None, Some, length, take, drop, sum_by}
use Rattle.std.specs.List.{flat_map}
use Rattle.utf16_transcode.specs.StreamSplit.{StreamSplit}
use Rattle.utf16_transcode.specs.WholeText.{WritesWhole}
use Rattle.utf16_transcode.specs.Stops.{Stops, StopsPartial, StopsLossy}
use Rattle.utf16_transcode.specs.Stream.{FeedsAs, StopsFeeding}
use Rattle.utf16_transcode.specs.Transcoded.{DecodesAsTo, SameText, Writes}
use Rattle.utf16_transcode.specs.declared.progress.Stop.{Stop}
use Rattle.utf16_transcode.specs.declared.progress.Stop.TheVariants.{Incomplete, Done, IllFormed, NoSpace}
use Rattle.utf16_wtf8.specs.Stream.{FeedsWtf8, StopsFeedingWtf8}

-- one call: the number of bytes that it read, its buffer after the call, the number of bytes
-- written to the start of the buffer, and why it stopped
pub record Call : Type 0 where
  pub read : ℕ
  pub to : List ℕ
  pub written : ℕ
  pub stop : Stop

-- the bytes that a call wrote
abbrev pub output : Call → List ℕ
output call = take call.written call.to

-- what a conversion promises of a call that is given the first bytes
module _ (Promised : List ℕ → Call → Type 0) where
  -- after each of the calls the next character did not fit; each is given what the call before
  -- left, and `left` is what the last one left
  abbrev pub Continue : List ℕ → List Call → List ℕ → Type 0
  Continue rest [] left = left ≡ rest
  Continue rest (call ∷ calls) left = Promised rest call × (call.stop ≡ NoSpace) × Continue (drop call.read rest) calls left

  -- such calls, and one more that stopped for another reason
  pub record EndWith (input : List ℕ) (calls : List Call) (last : Call) : Type 0 where
    pub left : List ℕ
    pub before : Continue input calls left
    pub promised : Promised left last
    pub ends : last.stop ≢ NoSpace

-- the bytes that these calls wrote, one after another
abbrev pub all_output : List Call → Call → List ℕ
all_output calls last = flat_map output calls ++ output last

-- what `transcode_lossy` promises
abbrev pub IsLossyCall : (List ℕ → List ℕ) → (ℕ → List ℕ) → List ℕ → Call → Type 0
IsLossyCall text into input call =
    WritesWhole text into input call.to call.read call.written
    × StopsLossy text into (drop call.read input) (length call.to - call.written) call.stop

-- what `transcode_partial` promises
abbrev pub IsPartialCall : StreamSplit → (ℕ → List ℕ) → List ℕ → Call → Type 0
IsPartialCall parts into input call =
    DecodesAsTo parts into input call.to call.read call.written
    × StopsPartial parts into (drop call.read input) (length call.to - call.written) call.stop

-- what `transcode` promises
module _ (from into : ℕ → List ℕ) (IsValid : List ℕ → Type 0) (other : List ℕ → List ℕ) (IsIllFormedOf : List ℕ → ℕ → Option ℕ → Type 0) where
  abbrev pub IsStrictCall : List ℕ → Call → Type 0
  IsStrictCall input call =
      Writes (SameText IsValid other) input call.to call.read call.written
      × Stops from into IsIllFormedOf input call.read (length call.to - call.written) call.stop

-- what follows the first n bytes of the input: nothing, an ill-formed sequence, or an incomplete
-- character
module _ (IsIllFormedOf : List ℕ → ℕ → Option ℕ → Type 0) where
  abbrev pub EndsAt : List ℕ → ℕ → Stop → Type 0
  EndsAt input n Done = n ≡ length input
  EndsAt input n (IllFormed len) = IsIllFormedOf input n (Some len)
  EndsAt input n Incomplete = IsIllFormedOf input n None
  EndsAt input n NoSpace = ⊥

-- the first n bytes, up to the first ill-formed sequence, are a text, and `out` is that text in the
-- other encoding
pub record ConvertsUpTo (IsValid : List ℕ → Type 0) (other : List ℕ → List ℕ) (IsIllFormedOf : List ℕ → ℕ → Option ℕ → Type 0) (input out : List ℕ) (n : ℕ) (stop : Stop) : Type 0 where
  pub within : n ≤ length input
  pub valid : IsValid (take n input)
  pub text : out ≡ other (take n input)
  pub ends : EndsAt IsIllFormedOf input n stop

-- how much these calls read in all
abbrev pub all_read : List Call → Call → ℕ
all_read calls last = sum_by (λ call. call.read) calls + last.read

-- one call of a stream: how many of the bytes that are left it is given as its chunk, what is
-- pending after it, and the same fields as any call
pub record Feed : Type 0 where
  pub offered : ℕ
  pub pending : List ℕ
  pub read : ℕ
  pub to : List ℕ
  pub written : ℕ
  pub stop : Stop

abbrev pub feed_output : Feed → List ℕ
feed_output feed = take feed.written feed.to

-- what `Stream::feed` promises of a call, after pending bytes and with these bytes of the stream
-- left
abbrev pub IsFeed : StreamSplit → (ℕ → List ℕ) → List ℕ → List ℕ → Feed → Type 0
IsFeed parts into pending bytes feed =
    FeedsAs parts into pending (take feed.offered bytes) feed.pending feed.to feed.read feed.written
    × StopsFeeding parts into pending (take feed.offered bytes) feed.pending feed.read (length feed.to - feed.written) feed.stop

-- what `Wtf8Stream::feed` promises
abbrev pub IsWtf8Feed : Bool → List ℕ → List ℕ → Feed → Type 0
IsWtf8Feed big pending bytes feed =
    FeedsWtf8 big pending (take feed.offered bytes) feed.pending feed.to feed.read feed.written
    × StopsFeedingWtf8 big pending (take feed.offered bytes) feed.pending feed.read (length feed.to - feed.written) feed.stop

-- such a call that found no ill-formed sequence
abbrev pub GoesOnWtf8 : Bool → List ℕ → List ℕ → Feed → Type 0
GoesOnWtf8 big pending bytes feed = IsWtf8Feed big pending bytes feed × ((len : ℕ) → feed.stop ≢ IllFormed len)

-- what a stream promises of a call
module _ (Promised : List ℕ → List ℕ → Feed → Type 0) where
  -- calls one after another, each given a chunk at the start of what the call before left
  abbrev pub Feeding : List ℕ → List ℕ → List Feed → List ℕ → List ℕ → Type 0
  Feeding pending bytes [] last left = (last ≡ pending) × (left ≡ bytes)
  Feeding pending bytes (feed ∷ feeds) last left = Promised pending bytes feed × Feeding feed.pending (drop feed.read bytes) feeds last left

  -- such calls from the start of a stream, and one more that takes all that is left of it
  pub record FeedsAll (bytes : List ℕ) (feeds : List Feed) (last : Feed) : Type 0 where
    pub pending : List ℕ
    pub left : List ℕ
    pub before : Feeding [] bytes feeds pending left
    pub fed : Promised pending left last
    pub done : last.stop ≡ Done
    pub all : last.read ≡ length left
