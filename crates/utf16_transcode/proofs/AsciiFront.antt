-- What is written for the ASCII at the start of a block.
use Rattle.std.proofs.Common.{All, ◌≡◌, ℕ, zero, suc, ◌*◌, ◌<◌, ◌≤◌, Bool, List, [], ◌∷◌, length, map, take, drop, bit_and, refl, sym, ap, ap₂, ◌∙◌, subst, ⊎_elim, arith, length-take-le, take-append-drop, take_at, take-take}
use Rattle.std.proofs.lemmas.Bool.{cases_lt}
use Rattle.std.proofs.lemmas.List.{get_or_past}
use Rattle.std.proofs.lemmas.List.Elements.{All-get_or}
use Rattle.std.proofs.lemmas.Nat.{and_mask}
use Rattle.std.proofs.lemmas.Str.{IsAscii-take, IsUtf8-from_ascii, chars-IsAscii}
use Rattle.std.specs.Str.{IsAscii, IsUtf8, chars}
use Rattle.utf16_units.specs.Encoding.{encode, size}
use Rattle.utf16_units.proofs.CharLemmas.{char_size_two}
use Rattle.utf16_units.proofs.EncodingLemmas.{encode-append, length-encode, size-cons, size-nil}
use Rattle.utf16_transcode.specs.Transcoded.{Writes}
use Rattle.utf16_transcode.specs.FromUtf8.{TranscodesToUtf16}

-- the same at any index
pub ascii-all : (bytes : List ℕ) → All (λ byte. byte < 0x80) bytes → IsAscii bytes
ascii-all bytes all i = ⊎_elim
    (λ (here : i < length bytes). All-get_or (λ byte. byte < 0x80) bytes i 0 here all)
    (λ (past : length bytes ≤ i). omega (arith, get_or_past bytes i 0 past))
    (cases_lt i (length bytes))

size-ascii : (text : List ℕ) → IsAscii text → size text ≡ 2 * length text
size-ascii [] low = size-nil
size-ascii (c ∷ text) low =
    let first : c < 0x80 = low zero in
    omega (arith, size-cons c text, char_size_two c (omega arith), size-ascii text (λ i. low (suc i)))

-- the low seven bits of an ASCII byte are the byte itself
pub front-low : (block : List ℕ) (n : ℕ) → IsAscii (take n block) → take n (map (λ byte. bit_and byte 0x7F) block) ≡ take n block
front-low block zero low = refl
front-low [] (suc n) low = refl
front-low (byte ∷ block) (suc n) low =
    let first : byte < 0x80 = low zero in
    ap₂ (λ x xs. x ∷ xs) (and_mask byte 7 ∙ omega arith) (front-low block n (λ i. low (suc i)))

-- the low seven bits of bytes are ASCII
pub low-ascii : (block : List ℕ) → IsAscii (map (λ byte. bit_and byte 0x7F) block)
low-ascii [] i = omega arith
low-ascii (byte ∷ block) zero = omega (arith, and_mask byte 7)
low-ascii (byte ∷ block) (suc i) = low-ascii block i

-- if ASCII is written in UTF-16, a prefix of the ASCII is written at the start
pub wrote-front : (big : Bool) (text low new : List ℕ) (n : ℕ) → n ≤ length text → take n low ≡ take n text → n ≤ length low → IsAscii low
    → 2 * length low ≤ length new → take (2 * length low) new ≡ encode big (chars low) → Writes (TranscodesToUtf16 big) text new n (2 * n)
wrote-front big text low new n within same few ascii fits wrote =
    let front = take n low in
    let is = IsAscii-take low n ascii in
    let long : length (encode big front) ≡ 2 * n = length-encode big front ∙ size-ascii front is ∙ ap (λ m. 2 * m) (length-take-le n low few) in
    let split = ap (encode big) (chars-IsAscii low ascii ∙ sym (take-append-drop n low)) ∙ encode-append big front (drop n low) in
    let here : take (2 * n) new ≡ encode big front =
    sym (take-take (2 * n) (2 * length low) new (omega arith)) ∙ ap (take (2 * n)) (wrote ∙ split) ∙ take_at (encode big front) (encode big (drop n low)) (2 * n) long in
    record {
      within = within;
      fits = omega arith;
      gives = (subst (λ b. IsUtf8 b) same (IsUtf8-from_ascii front is), here ∙ ap (encode big) (sym (chars-IsAscii front is) ∙ ap chars same));
    }
