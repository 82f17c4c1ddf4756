-- From UTF-16 to UTF-8: texts one after another, characters, and the place of an error.
use Rattle.std.proofs.Common.{◌≡◌, ℕ, ◌+◌, ◌*◌, ◌/◌, ◌<◌, ◌≤◌, Bool, List, [], ◌∷◌, ◌++◌, Option, length, take, drop, slice_index, encode_utf8_all, sym, ap, ap₂, ◌∙◌, subst, arith, append-nil, length-take-le}
use Rattle.std.proofs.lemmas.List.{take_rest}
use Rattle.std.proofs.lemmas.List.Concat.{flat_map-append}
use Rattle.std.specs.Char.{IsScalar, encode_utf8}
use Rattle.utf16_units.specs.Encoding.{IsUtf16, char_bytes, char_size, text_of}
use Rattle.utf16_units.specs.IllFormed.{BeginsWithChar, IsIllFormedAt}
use Rattle.utf16_units.proofs.EncodingLemmas.{IsUtf16-append, IsUtf16-char, IsUtf16-nil, char_text, text_of-append, text_of-nil}
use Rattle.utf16_units.proofs.CharLemmas.{char_size_cases, length-char_bytes}
use Rattle.utf16_units.proofs.IllFormedLemmas.{faults}
use Rattle.utf16_transcode.specs.Transcoded.{SameText, TranscodesToUtf8, Joins}
use Rattle.utf16_transcode.specs.Stops.{BeginsWith, IsIllFormedUtf16}

pub room_grows : (m n : ℕ) → m ≤ n → m / 2 * 3 + 128 ≤ n / 2 * 3 + 128
room_grows m n le = omega arith

pub utf8_joins : (big : Bool) → Joins (TranscodesToUtf8 big)
utf8_joins big front back into more first second = (
  IsUtf16-append big front back first.0 second.0,
  ap₂ (λ x y. x ++ y) first.1 second.1 ∙ sym (flat_map-append encode_utf8 (text_of big front) (text_of big back))
      ∙ ap encode_utf8_all (sym (text_of-append big front back first.0)),
)

pub utf8_empty : (big : Bool) → TranscodesToUtf8 big [] []
utf8_empty big = (IsUtf16-nil big, ap encode_utf8_all (sym (text_of-nil big)))

pub char_gives : (big : Bool) (c : ℕ) → IsScalar c → SameText (IsUtf16 big) (λ raw. encode_utf8_all (text_of big raw)) (char_bytes big c) (encode_utf8 c)
char_gives big c scalar = (IsUtf16-char big c scalar, sym (ap encode_utf8_all (char_text big c scalar) ∙ append-nil (encode_utf8 c)))

pub faults_there : (big : Bool) (raw : List ℕ) (read : ℕ) (len : Option ℕ) → read < length raw → IsUtf16 big (take read raw) → IsIllFormedAt big (drop read raw) len
    → IsIllFormedUtf16 big raw read len
faults_there big raw read len within text here = faults big raw read len within text (subst (λ r. IsIllFormedAt big r len) (sym (take_rest raw read)) here)

-- the first character, read only from its bytes
pub begins : (big : Bool) (rest : List ℕ) (len c n : ℕ) → BeginsWithChar big rest len → n ≡ char_size c
    → text_of big (take len rest) ≡ c ∷ text_of big (drop n (take len rest)) → BeginsWith (char_bytes big) rest c n
begins big rest len c n first size joined =
    let spelled = ap (text_of big) first.spelled ∙ char_text big first.char first.scalar in
    let same : first.char ≡ c = ap (λ cs. slice_index cs 0) (sym spelled ∙ joined) in
    let bytes = length-char_bytes big first.char in
    let long : length (take len rest) ≡ len = length-take-le len rest first.within in
    let all : n ≡ len = omega (arith, size, ap char_size same, bytes, ap length first.spelled, long) in
    record {
      scalar = subst IsScalar same first.scalar;
      within = omega (arith, all, first.within);
      some = omega (arith, size, char_size_cases c);
      spelled = ap (λ k. take k rest) all ∙ first.spelled ∙ ap (char_bytes big) same;
    }
