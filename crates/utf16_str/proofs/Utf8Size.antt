-- A text takes at least half as many bytes in UTF-8 as in UTF-16.
use Rattle.std.proofs.Common.{ℕ, ◌*◌, ◌≤◌, List, [], ◌∷◌, arith, encode_utf8_all, length, length-append}
use Rattle.std.specs.Char.{encode_utf8}
use Rattle.utf16_units.specs.Encoding.{size}
use Rattle.utf16_units.proofs.CharLemmas.{char_size-le}
use Rattle.utf16_units.proofs.EncodingLemmas.{size-cons, size-nil}

pub size-le-encodes : (text : List ℕ) → size text ≤ 2 * length (encode_utf8_all text)
size-le-encodes [] = omega (arith, size-nil)
size-le-encodes (c ∷ text) =
    omega (arith, size-cons c text, char_size-le c, size-le-encodes text, length-append (encode_utf8 c) (encode_utf8_all text))
