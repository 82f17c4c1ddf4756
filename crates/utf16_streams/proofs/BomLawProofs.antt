-- The proof of the law, under its name.
use Rattle.std.proofs.Common.{arith, ◌≡◌, ℕ, Bool, List, encode_utf8_all, ap, ◌∙◌}
use Rattle.std.proofs.lemmas.Str.{chars-encodes, utf8_lossy-IsUtf8}
use Rattle.std.specs.Str.{IsUtf8, chars}
use Rattle.std.specs.Str.Lossy.{utf8_lossy}
use Rattle.utf16_units.specs.Encoding.{IsUtf16, encode}
use Rattle.utf16_units.specs.Split.{lossy_text}
use Rattle.utf16_units.proofs.EncodingLemmas.{All-from_all_scalars, IsUtf16-encode, all_scalars-from_All, encode-text_of, scalars-text_of, text_of-encode}
use Rattle.utf16_transcode.proofs.DecodeLossyLemmas.{text_size}
use Rattle.utf16_streams.specs.BomLaws.{ThereAndBack}

-- the characters of well-formed UTF-8 are the characters of std's lossy decoding of it
text_there : (utf8 text : List ℕ) → IsUtf8 utf8 → chars utf8 ≡ text → chars (utf8_lossy utf8) ≡ text
text_there utf8 text valid e = ap chars (utf8_lossy-IsUtf8 utf8 valid) ∙ e

utf8_there : (big : Bool) (bytes : List ℕ) → IsUtf8 bytes → encode_utf8_all (lossy_text big (encode big (chars (utf8_lossy bytes)))) ≡ bytes
utf8_there big bytes valid = grind (arith, All-from_all_scalars, chars-encodes, text_there, text_size, IsUtf16-encode, text_of-encode)

utf16_there : (big : Bool) (bytes : List ℕ) → IsUtf16 big bytes → encode big (chars (utf8_lossy (encode_utf8_all (lossy_text big bytes)))) ≡ bytes
utf16_there big bytes valid = grind (arith, all_scalars-from_All, scalars-text_of, text_size, text_there, chars-encodes, encode-text_of)

pub there_and_back : ThereAndBack
there_and_back big bytes = (utf8_there big bytes, utf16_there big bytes)
