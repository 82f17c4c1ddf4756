-- Texts that are converted from one encoding to another.
use Rattle.std.specs.Prelude.{◌≢◌, Bool, true, false, List, [], ℕ}
use Rattle.utf16string.specs.Encoding.{IsUtf16}
use Rattle.utf16string.specs.Utf16Error.{IsErrorOf}
use Rattle.examples.specs.declared.transcode.ByteOrder.{ByteOrder}
use Rattle.examples.specs.declared.transcode.ByteOrder.TheVariants.{Big, Little}
use Rattle.examples.specs.declared.transcode.TranscodeError.{TranscodeError}
use Rattle.examples.specs.declared.transcode.TranscodeError.TheVariants.{Memory, NoText}

-- whether the high byte of a code unit comes first
abbrev pub order_big : ByteOrder → Bool
order_big Big = true
order_big Little = false

-- why the bytes were not transcoded: they are ill-formed, and this is the error; or they are well
-- formed, and allocation failed
abbrev pub IsTranscodeError : Bool → List ℕ → TranscodeError → Type 0
IsTranscodeError big bytes (NoText e) = IsErrorOf big bytes e
IsTranscodeError big bytes Memory = IsUtf16 big bytes

-- the same for chunks that are joined first: allocation may fail before any byte is validated, but
-- only if the chunks have bytes
abbrev pub IsPiecesError : Bool → List ℕ → TranscodeError → Type 0
IsPiecesError big bytes (NoText e) = IsErrorOf big bytes e
IsPiecesError big bytes Memory = bytes ≢ []
