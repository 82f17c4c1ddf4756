-- The conversions between UTF-16 and UTF-8, UTF-32, Latin-1 and WTF-8, each in the words of its
-- contract.
use Rattle.std.specs.Prelude.{◌≡◌, ◌⊎◌, ℕ, ◌+◌, ◌<◌, Bool, List, [], ◌++◌, Option, length, take, drop}
use Rattle.std.specs.List.{flat_map}
use Rattle.utf16_units.specs.Encoding.{Encodes, char_bytes}
use Rattle.utf16_units.specs.Split.{lossy_text}
use Rattle.utf16_transcode.specs.Decodes.{DecodesAs}
use Rattle.utf16_transcode.specs.StreamSplit.{StreamSplit}
use Rattle.utf16_transcode.specs.Stops.{IsIllFormedUtf16, StopsPartial, StopsLossy, Stops}
use Rattle.utf16_transcode.specs.declared.progress.Stop.{Stop}
use Rattle.utf16_transcode.specs.declared.progress.Stop.TheVariants.{Incomplete, Done, IllFormed, NoSpace}
use Rattle.utf16_fixed.specs.Stops32.{IsIllFormedUtf32}
use Rattle.utf16_fixed.specs.Utf32.{ShowsInUtf16, TranscodesFromUtf32, TranscodesToUtf32, lossy_utf32, utf32_units}
use Rattle.utf16_fixed.specs.StopsLatin1.{StopsLatin1}
use Rattle.utf16_fixed.specs.declared.latin1_stop.Latin1Stop.{Latin1Stop}
use Rattle.utf16_fixed.specs.declared.latin1_stop.Latin1Stop.TheVariants as latin1
use Rattle.utf16_wtf8.specs.FromWtf8.{StopsFromWtf8, StopsFromWtf8Partial, TranscodesFromWtf8}
use Rattle.utf16_wtf8.specs.ToWtf8.{StopsToWtf8, points_of}
use Rattle.utf16_wtf8.specs.Wtf8.{generalized_utf8}
use Rattle.uses_buffers.specs.FormCalls.{Conversion, IsCall}

-- a conversion up to the first ill-formed sequence
abbrev pub strict : (List ℕ → List ℕ → Type 0) → (ℕ → List ℕ) → (ℕ → List ℕ) → (List ℕ → ℕ → Option ℕ → Type 0) → Conversion ℕ ℕ Stop
strict SameText from into IsIllFormedOf = record {
  no_space = NoSpace;
  Writes = λ input out n. SameText (take n input) out;
  Stops = Stops from into IsIllFormedOf;
}

-- a conversion of any input: the text of what is not read follows the output
abbrev pub lossy : (List ℕ → List ℕ) → (ℕ → List ℕ) → Conversion ℕ ℕ Stop
lossy text into = record {
  no_space = NoSpace;
  Writes = λ input out n. flat_map into (text input) ≡ out ++ flat_map into (text (drop n input));
  Stops = λ input n left stop. StopsLossy text into (drop n input) left stop;
}

-- a conversion of what is certain of any input
abbrev pub partial : StreamSplit → (ℕ → List ℕ) → Conversion ℕ ℕ Stop
partial parts into = record {
  no_space = NoSpace;
  Writes = λ input out n. DecodesAs parts into input (drop n input) [] out;
  Stops = λ input n left stop. StopsPartial parts into (drop n input) left stop;
}

-- `to_utf32`
abbrev pub to_utf32 : Bool → Conversion ℕ ℕ Stop
to_utf32 big = strict (TranscodesToUtf32 big) (char_bytes big) utf32_units (IsIllFormedUtf16 big)

-- `from_utf32`
abbrev pub from_utf32 : Bool → Conversion ℕ ℕ Stop
from_utf32 big = strict (TranscodesFromUtf32 big) utf32_units (char_bytes big) IsIllFormedUtf32

-- `to_utf32_lossy`
abbrev pub to_utf32_lossy : Bool → Conversion ℕ ℕ Stop
to_utf32_lossy big = lossy (lossy_text big) utf32_units

-- `from_utf32_lossy`
abbrev pub from_utf32_lossy : Bool → Conversion ℕ ℕ Stop
from_utf32_lossy big = record {
  no_space = NoSpace;
  Writes = λ utf32 out n. ShowsInUtf16 big (take n utf32) out;
  Stops = λ utf32 n left stop. StopsLossy lossy_utf32 (char_bytes big) (drop n utf32) left stop;
}

-- `to_latin1`
abbrev pub to_latin1 : Bool → Conversion ℕ ℕ Latin1Stop
to_latin1 big = record {
  no_space = latin1.NoSpace;
  Writes = λ raw out n. Encodes big out (take n raw);
  Stops = StopsLatin1 big;
}

-- why `from_latin1` stops: all was read, or fewer than two bytes of the buffer are left
abbrev pub StopsFromLatin1 : List ℕ → ℕ → ℕ → Stop → Type 0
StopsFromLatin1 latin1 n left Done = n ≡ length latin1
StopsFromLatin1 latin1 n left (IllFormed len) = ⊥
StopsFromLatin1 latin1 n left Incomplete = ⊥
StopsFromLatin1 latin1 n left NoSpace = (n < length latin1) × (left < 2)

-- `from_latin1`
abbrev pub from_latin1 : Bool → Conversion ℕ ℕ Stop
from_latin1 big = record {
  no_space = NoSpace;
  Writes = λ latin1 out n. Encodes big (take n latin1) out;
  Stops = StopsFromLatin1;
}

-- `to_wtf8`: the WTF-8 of what is not read follows the output
abbrev pub to_wtf8 : Bool → Conversion ℕ ℕ Stop
to_wtf8 big = record {
  no_space = NoSpace;
  Writes = λ raw out n. flat_map generalized_utf8 (points_of big raw) ≡ out ++ flat_map generalized_utf8 (points_of big (drop n raw));
  Stops = λ raw n left stop. StopsToWtf8 big (drop n raw) left stop;
}

-- `from_wtf8`
abbrev pub from_wtf8 : Bool → Conversion ℕ ℕ Stop
from_wtf8 big = record {
  no_space = NoSpace;
  Writes = λ wtf8 out n. TranscodesFromWtf8 big (take n wtf8) out;
  Stops = StopsFromWtf8 big;
}

-- `from_wtf8_partial`
abbrev pub from_wtf8_partial : Bool → Conversion ℕ ℕ Stop
from_wtf8_partial big = record {
  no_space = NoSpace;
  Writes = λ wtf8 out n. TranscodesFromWtf8 big (take n wtf8) out;
  Stops = StopsFromWtf8Partial big;
}

-- a call of `from_wtf8_partial` stopped at the end of a chunk, and a call is given what it left and
-- then more bytes: together they did what one call does that is given the chunk and these bytes
abbrev pub Cuts : Bool → Conversion ℕ ℕ Stop → Type 0
Cuts big next = (chunk bytes out more : List ℕ) (at read left room : ℕ) (stop last : Stop)
    → IsCall (from_wtf8_partial big) chunk out at left stop → (stop ≡ Done) ⊎ (stop ≡ Incomplete)
    → IsCall next (drop at chunk ++ bytes) more read room last → IsCall next (chunk ++ bytes) (out ++ more) (at + read) room last

-- a stream took a chunk in one call or more, which did together what one call of
-- `from_wtf8_partial` does that is given the pending bytes and the chunk. What it would leave is
-- pending, if it finds no ill-formed sequence
pub record TakesWtf8 (big : Bool) (pending chunk left old new : List ℕ) (stop : Stop) : Type 0 where
  pub out : List ℕ
  pub read : ℕ
  pub room : ℕ
  pub last : Stop
  pub call : IsCall (from_wtf8_partial big) (pending ++ chunk) out read room last
  pub appended : new ≡ old ++ out
  pub ends : ((stop ≡ Done) × ((last ≡ Done) ⊎ (last ≡ Incomplete)) × (left ≡ drop read (pending ++ chunk)))
      ⊎ ((len : ℕ) × (stop ≡ IllFormed len) × (last ≡ IllFormed len))
