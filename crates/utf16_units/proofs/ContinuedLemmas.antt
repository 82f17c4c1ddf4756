-- Which ill-formed bytes are the prefix of a text.
use Rattle.std.proofs.Common.{◌≡◌, ◌↔◌, ℕ, zero, suc, ◌+◌, ◌-◌, ◌/◌, ◌%◌, ◌<◌, ◌≤◌, Bool, true, false, List, [], ◌∷◌, ◌++◌, length, take, drop, slice_index, None, Some, All, refl, sym, ap, ◌∙◌, subst, ⊎_elim, arith, append_assoc, append-nil, length-append, length-drop, take-append-drop, take_at, take-add}
use Rattle.std.proofs.lemmas.Bool.{cases_lt}
use Rattle.std.proofs.lemmas.List.{take-append-le}
use Rattle.std.proofs.lemmas.List.Elements.{All-head, All-tail, All-drop}
use Rattle.utf16_units.specs.Unit.{IsLeading, IsTrailing, unit_of}
use Rattle.utf16_units.specs.Encoding.{char_bytes, char_size, encode, IsUtf16}
use Rattle.utf16_units.specs.IllFormed.{BeginsWithChar, IsIncomplete, IsIllFormed, IsUtf16ValidUpTo}
use Rattle.utf16_units.specs.Continued.{IsUtf16Prefix, IsDeadEnd, IsTrailingHigh}
use Rattle.utf16_units.proofs.CharLemmas.{char_size_four, char_size_two, length-char_bytes, no_surrogate}
use Rattle.utf16_units.proofs.EncodingLemmas.{IsUtf16-append, IsUtf16-char, IsUtf16-rest}
use Rattle.utf16_units.proofs.IllFormedLemmas.{IsUtf16ValidUpTo-unique}
use Rattle.utf16_units.proofs.FirstChar.{AreBytes, first_unit, one_unit_first, pair_first}
use Rattle.utf16_units.proofs.FrontChar.{HasFirst, first_of, one_not_leading, one_spelled, two_below, two_leading, two_spelled}

-- what follows the longest valid prefix does not start with a text
nothing_more : (big : Bool) (bytes : List ℕ) (n k : ℕ) → IsUtf16ValidUpTo big bytes n → 0 < k → k ≤ length (drop n bytes) → ¬ (IsUtf16 big (take k (drop n bytes)))
nothing_more big bytes n k front some within t =
    let long = length-drop n bytes in
    let longer : n + k ≤ n = front.longest (n + k) (omega arith)
    (subst (IsUtf16 big) (sym (take-add n k bytes)) (IsUtf16-append big (take n bytes) (take k (drop n bytes)) front.valid t)) in
    omega arith

-- if bytes are the prefix of a text, what follows their longest valid prefix is one too
rest_continues : (big : Bool) (bytes : List ℕ) (n : ℕ) → IsUtf16ValidUpTo big bytes n → (b : IsUtf16Prefix big bytes) → IsUtf16 big (drop n bytes ++ b.more)
rest_continues big bytes n front b =
    IsUtf16-rest big (take n bytes) (drop n bytes ++ b.more) front.valid
    (subst (IsUtf16 big) (ap (λ t. t ++ b.more) (sym (take-append-drop n bytes)) ∙ append_assoc (take n bytes) (drop n bytes) b.more) b.text)

rest_begins : (big : Bool) (bytes : List ℕ) (n : ℕ) (more : List ℕ) → IsUtf16ValidUpTo big bytes n → IsUtf16 big (drop n bytes ++ more) → IsUtf16Prefix big bytes
rest_begins big bytes n more front t = record {
  more = more;
  text = subst (IsUtf16 big) (sym (ap (λ s. s ++ more) (sym (take-append-drop n bytes)) ∙ append_assoc (take n bytes) (drop n bytes) more))
      (IsUtf16-append big (take n bytes) (drop n bytes ++ more) front.valid t);
}

-- a first character whose bytes are all there is a text
first_is_utf16 : (big : Bool) (bytes more : List ℕ) (h : HasFirst big (bytes ++ more)) → char_size h.char ≤ length bytes → IsUtf16 big (take (char_size h.char) bytes)
first_is_utf16 big bytes more h within =
    let s = char_size h.char in
    let same : take s bytes ≡ char_bytes big h.char =
    sym (take-append-le s bytes more within) ∙ ap (take s) h.spelled
    ∙ take_at (char_bytes big h.char) (encode big h.text) s (length-char_bytes big h.char) in
    subst (IsUtf16 big) (sym same) (IsUtf16-char big h.char h.scalar)

-- an error of length 2 is never continued
no_more_after_two : (big : Bool) (bytes rest : List ℕ) (n : ℕ) → IsUtf16ValidUpTo big bytes n → drop n bytes ≡ rest → ¬ (IsUtf16 big bytes) → ¬ (IsIncomplete big rest) → ¬ (IsUtf16Prefix big bytes)
no_more_after_two big bytes [] n front at refused whole b =
    let all : take n bytes ≡ bytes = sym (append-nil (take n bytes)) ∙ ap (λ t. take n bytes ++ t) (sym at) ∙ take-append-drop n bytes in
    refused (subst (IsUtf16 big) all front.valid)
no_more_after_two big bytes (x ∷ []) n front at refused whole b = absurd (whole tt)
no_more_after_two big bytes (x ∷ y ∷ after) n front at refused whole b =
    let rest = x ∷ y ∷ after in
    let goes_on : IsUtf16 big (rest ++ b.more) = subst (λ t. IsUtf16 big (t ++ b.more)) at (rest_continues big bytes n front b) in
    let h = first_of big (rest ++ b.more) goes_on (omega arith) in
    let impossible : char_size h.char ≤ length rest → 0 < char_size h.char → ⊥ = λ within some.
    nothing_more big bytes n (char_size h.char) front some (subst (λ t. char_size h.char ≤ length t) (sym at) within)
    (subst (λ t. IsUtf16 big (take (char_size h.char) t)) (sym at) (first_is_utf16 big rest b.more h within)) in
    ⊎_elim
    (λ (one : h.char < 0x1_0000).
    let two = char_size_two h.char one in
    impossible (omega arith) (omega arith))
    (λ (pair : 0x1_0000 ≤ h.char).
    let four = char_size_four h.char pair in
    let leading : IsLeading (unit_of big x y) = two_leading big (rest ++ b.more) h pair in
    let there : 2 ≤ length after = ⊎_elim
    (λ (short : length after < 2). absurd (whole (leading, omega arith)))
    (λ (le : 2 ≤ length after). le)
    (cases_lt (length after) 2) in
    impossible (omega arith) (omega arith))
    (cases_lt h.char 0x1_0000)

pub two_never : (big : Bool) (bytes : List ℕ) → IsIllFormed big bytes (Some 2) → ¬ (IsUtf16Prefix big bytes)
two_never big bytes f b = no_more_after_two big bytes (drop f.valid_up_to bytes) f.valid_up_to f.front refl f.ill_formed f.at_front.1 b

-- ---- what continues bytes with an error of no length

AreBytes-nil : AreBytes []
AreBytes-nil k = omega arith

AreBytes-cons : (x : ℕ) (xs : List ℕ) → x < 256 → AreBytes xs → AreBytes (x ∷ xs)
AreBytes-cons x xs byte are zero = byte
AreBytes-cons x xs byte are (suc k) = are k

IsUtf16-begins : (big : Bool) (bytes : List ℕ) (n : ℕ) → BeginsWithChar big bytes n → IsUtf16 big (take n bytes)
IsUtf16-begins big bytes n b = subst (IsUtf16 big) (sym b.spelled) (IsUtf16-char big b.char b.scalar)

-- two bytes of a unit that is not a surrogate are a text, and so are four of a surrogate pair
pub two_bytes_text : (big : Bool) (x y : ℕ) → x < 256 → y < 256 → ¬ (IsLeading (unit_of big x y)) → ¬ (IsTrailing (unit_of big x y)) → IsUtf16 big (x ∷ y ∷ [])
two_bytes_text big x y bx by leading trailing =
    let bytes = x ∷ y ∷ [] in
    IsUtf16-begins big bytes 2 (one_unit_first big bytes (AreBytes-cons x (y ∷ []) bx (AreBytes-cons y [] by AreBytes-nil)) (omega arith) leading trailing)

pub four_bytes_text : (big : Bool) (x y z w : ℕ) → x < 256 → y < 256 → z < 256 → w < 256 → IsLeading (unit_of big x y) → IsTrailing (unit_of big z w) → IsUtf16 big (x ∷ y ∷ z ∷ w ∷ [])
four_bytes_text big x y z w bx by bz bw leading trailing =
    let bytes = x ∷ y ∷ z ∷ w ∷ [] in
    IsUtf16-begins big bytes 4 (pair_first big bytes
    (AreBytes-cons x (y ∷ z ∷ w ∷ []) bx (AreBytes-cons y (z ∷ w ∷ []) by (AreBytes-cons z (w ∷ []) bz (AreBytes-cons w [] bw AreBytes-nil))))
    (omega arith) leading trailing)

-- some bytes complete a truncated character to a text, unless it is a dead end
completed : (big : Bool) (rest : List ℕ) → All (λ b. b < 256) rest → IsIncomplete big rest → ¬ (IsDeadEnd big rest) → (more : List ℕ) × IsUtf16 big (rest ++ more)
completed big [] bytes cut alive = absurd cut
completed false (x ∷ []) bytes cut alive =
    let bx : x < 256 = All-head (λ b. b < 256) x [] bytes in
    (0 ∷ [], two_bytes_text false x 0 bx (omega arith) (λ leading. omega (arith, leading.0)) (λ trailing. omega (arith, trailing.0)))
completed true (x ∷ []) bytes cut alive =
    let bx : x < 256 = All-head (λ b. b < 256) x [] bytes in
    ⊎_elim
    (λ (low : x < 0xD8). (0 ∷ [], two_bytes_text true x 0 bx (omega arith) (λ leading. omega (arith, leading.0)) (λ trailing. omega (arith, trailing.0))))
    (λ (from : 0xD8 ≤ x). ⊎_elim
    (λ (lead_byte : x < 0xDC).
    (0 ∷ 0xDC ∷ 0 ∷ [], four_bytes_text true x 0 0xDC 0 bx (omega arith) (omega arith) (omega arith) (omega arith, omega arith) (omega arith, omega arith)))
    (λ (past : 0xDC ≤ x). ⊎_elim
    (λ (trail_byte : x < 0xE0). absurd (alive (past, omega arith)))
    (λ (high : 0xE0 ≤ x). (0 ∷ [], two_bytes_text true x 0 bx (omega arith) (λ leading. omega (arith, leading.1)) (λ trailing. omega (arith, trailing.1))))
    (cases_lt x 0xE0))
    (cases_lt x 0xDC))
    (cases_lt x 0xD8)
completed false (x ∷ y ∷ []) bytes cut alive =
    let bx : x < 256 = All-head (λ b. b < 256) x (y ∷ []) bytes in
    let by : y < 256 = All-head (λ b. b < 256) y [] (All-tail (λ b. b < 256) x (y ∷ []) bytes) in
    (0 ∷ 0xDC ∷ [], four_bytes_text false x y 0 0xDC bx by (omega arith) (omega arith) cut.0 (omega arith, omega arith))
completed true (x ∷ y ∷ []) bytes cut alive =
    let bx : x < 256 = All-head (λ b. b < 256) x (y ∷ []) bytes in
    let by : y < 256 = All-head (λ b. b < 256) y [] (All-tail (λ b. b < 256) x (y ∷ []) bytes) in
    (0xDC ∷ 0 ∷ [], four_bytes_text true x y 0xDC 0 bx by (omega arith) (omega arith) cut.0 (omega arith, omega arith))
completed big (x ∷ y ∷ z ∷ w ∷ after) bytes cut alive =
    absurd (omega arith)
completed false (x ∷ y ∷ z ∷ []) bytes cut alive =
    let bx : x < 256 = All-head (λ b. b < 256) x (y ∷ z ∷ []) bytes in
    let tail = All-tail (λ b. b < 256) x (y ∷ z ∷ []) bytes in
    let by : y < 256 = All-head (λ b. b < 256) y (z ∷ []) tail in
    let bz : z < 256 = All-head (λ b. b < 256) z [] (All-tail (λ b. b < 256) y (z ∷ []) tail) in
    (0xDC ∷ [], four_bytes_text false x y z 0xDC bx by bz (omega arith) cut.0 (omega arith, omega arith))
completed true (x ∷ y ∷ z ∷ []) bytes cut alive =
    let bx : x < 256 = All-head (λ b. b < 256) x (y ∷ z ∷ []) bytes in
    let tail = All-tail (λ b. b < 256) x (y ∷ z ∷ []) bytes in
    let by : y < 256 = All-head (λ b. b < 256) y (z ∷ []) tail in
    let bz : z < 256 = All-head (λ b. b < 256) z [] (All-tail (λ b. b < 256) y (z ∷ []) tail) in
    ⊎_elim
    (λ (low : z < 0xDC). absurd (alive (cut.0, λ high. omega (arith, high.0))))
    (λ (from : 0xDC ≤ z). ⊎_elim
    (λ (below : z < 0xE0). (0 ∷ [], four_bytes_text true x y z 0 bx by bz (omega arith) cut.0 (omega arith, omega arith)))
    (λ (past : 0xE0 ≤ z). absurd (alive (cut.0, λ high. omega (arith, high.1))))
    (cases_lt z 0xE0))
    (cases_lt z 0xDC)

head_of : List ℕ → ℕ
head_of bytes = slice_index bytes 0

third_of : List ℕ → ℕ
third_of bytes = slice_index bytes 2

-- in big endian no text starts with the high byte of a trailing surrogate
first_byte : (bytes : List ℕ) → HasFirst true bytes → ¬ (IsTrailingHigh (head_of bytes))
unfolding head_of
first_byte bytes h high =
    let cases = no_surrogate h.char h.scalar in
    ⊎_elim
    (λ (one : h.char < 0x1_0000).
    let byte : head_of bytes ≡ h.char / 256 = ap head_of (one_spelled true bytes h one) in
    ⊎_elim (λ (low : h.char < 0xD800). omega (arith, high.0, high.1)) (λ (above : (0xE000 ≤ h.char) × (h.char < 0x11_0000)). omega (arith, high.0, high.1)) cases)
    (λ (pair : 0x1_0000 ≤ h.char).
    let byte : head_of bytes ≡ (0xD800 + (h.char - 0x1_0000) / 0x400) / 256 = ap head_of (two_spelled true bytes h pair) in
    omega (arith, high.0, high.1))
    (cases_lt h.char 0x1_0000)

-- and a leading surrogate is followed by the high byte of a trailing one
third_byte : (bytes : List ℕ) → HasFirst true bytes → IsLeading (first_unit true bytes) → IsTrailingHigh (third_of bytes)
unfolding third_of
third_byte bytes h leading = ⊎_elim
    (λ (one : h.char < 0x1_0000). absurd (one_not_leading true bytes h one leading))
    (λ (pair : 0x1_0000 ≤ h.char).
    let byte : third_of bytes ≡ (0xDC00 + (h.char - 0x1_0000) % 0x400) / 256 = ap third_of (two_spelled true bytes h pair) in
    (omega arith, omega arith))
    (cases_lt h.char 0x1_0000)

dead_end : (big : Bool) (rest more : List ℕ) → IsDeadEnd big rest → ¬ (IsUtf16 big (rest ++ more))
unfolding head_of third_of
dead_end true (x ∷ []) more dead t = first_byte (x ∷ more) (first_of true (x ∷ more) t (omega arith)) dead
dead_end true (x ∷ y ∷ z ∷ []) more dead t =
    dead.1 (third_byte (x ∷ y ∷ z ∷ more) (first_of true (x ∷ y ∷ z ∷ more) t (omega arith)) dead.0)
dead_end big rest more dead t = absurd dead

pub none_where : (big : Bool) (bytes : List ℕ) (n : ℕ) → All (λ b. b < 256) bytes → IsIllFormed big bytes None → IsUtf16ValidUpTo big bytes n
    → (IsUtf16Prefix big bytes ↔ ¬ (IsDeadEnd big (drop n bytes)))
none_where big bytes n are f front =
    let same : f.valid_up_to ≡ n = IsUtf16ValidUpTo-unique big bytes f.valid_up_to n f.front front in
    let cut : IsIncomplete big (drop n bytes) = subst (λ k. IsIncomplete big (drop k bytes)) same f.at_front in (
      λ b dead. dead_end big (drop n bytes) b.more dead (rest_continues big bytes n front b),
      λ alive.
          let found = completed big (drop n bytes) (All-drop (λ b. b < 256) n bytes are) cut alive in
          rest_begins big bytes n found.0 front found.1,
    )
