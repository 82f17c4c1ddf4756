-- What a call read and what it wrote.
use Rattle.std.specs.Prelude.{◌≡◌, ℕ, ◌≤◌, Bool, List, [], ◌++◌, length, take, drop, encode_utf8_all}
use Rattle.utf16_units.specs.Encoding.{IsUtf16, text_of}
use Rattle.std.specs.Char.{encode_utf8}
use Rattle.utf16_transcode.specs.Decodes.{DecodesAs, utf16_split}
use Rattle.utf16_transcode.specs.StreamSplit.{StreamSplit}

-- valid bytes of one encoding, and the bytes of the same text in the other
abbrev pub SameText : (List ℕ → Type 0) → (List ℕ → List ℕ) → List ℕ → List ℕ → Type 0
SameText IsValid other input out = IsValid input × (out ≡ other input)

-- the outputs for two parts, concatenated, are the output for both together
abbrev pub Joins : (List ℕ → List ℕ → Type 0) → Type 0
Joins Given = (front back into more : List ℕ) → Given front into → Given back more → Given (front ++ back) (into ++ more)

-- bytes of UTF-16 and the UTF-8 of the same text
abbrev pub TranscodesToUtf8 : Bool → List ℕ → List ℕ → Type 0
TranscodesToUtf8 big raw utf8 = IsUtf16 big raw × (utf8 ≡ encode_utf8_all (text_of big raw))

-- the first bytes of the input were read, and their output is at the start of the buffer
pub record Writes (SameText : List ℕ → List ℕ → Type 0) (input to : List ℕ) (read written : ℕ) : Type 0 where
  pub within : read ≤ length input
  pub fits : written ≤ length to
  pub gives : SameText (take read input) (take written to)

-- some bytes of the rest were read, and their output was written at an offset of the buffer; it
-- ends at `last`
pub record WritesAt (SameText : List ℕ → List ℕ → Type 0) (rest old new : List ℕ) (at len last : ℕ) : Type 0 where
  pub within : len ≤ length rest
  pub fits : last ≤ length new
  pub added : List ℕ
  pub gives : SameText (take len rest) added
  pub bytes : take last new ≡ take at old ++ added

-- the first bytes of the input were decoded, and what is shown for them is at the start of the
-- buffer
pub record DecodesAsTo (parts : StreamSplit) (into : ℕ → List ℕ) (input to : List ℕ) (read written : ℕ) : Type 0 where
  pub within : read ≤ length input
  pub fits : written ≤ length to
  pub decodes : DecodesAs parts into input (drop read input) [] (take written to)

-- such a step from UTF-16 to UTF-8
abbrev pub DecodesTo : Bool → List ℕ → List ℕ → ℕ → ℕ → Type 0
DecodesTo big = DecodesAsTo (utf16_split big) encode_utf8
