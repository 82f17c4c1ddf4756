-- What is at the start of bytes that begin with no character (Unicode, table 3-7).
use Rattle.std.proofs.Common.{◌≡◌, ℕ, ◌<◌, ◌≤◌, true, false, List, [], ◌∷◌, ◌++◌, Some, None, length, refl, sym, ⊎_elim, inl, inr, arith, slice_index}
use Rattle.std.proofs.lemmas.Bool.{cases_lt}
use Rattle.std.proofs.lemmas.Bool.Decides.{nat_tests}
use Rattle.std.specs.Int.{is_in_range}
use Rattle.utf8_bytes.specs.Split.{IsSubpart, IsTail}
use Rattle.utf8_bytes.proofs.PartLemmas.{tail_undecided}
use Rattle.utf8_bytes.proofs.TableLemmas.{bad_first, bad_fourth, bad_third, tail_four, tail_four_one, tail_four_two, tail_three, tail_three_one, tail_two}
use Rattle.utf16_transcode.specs.FromUtf8.{IsIllFormedUtf8At}
use Rattle.utf16_transcode.proofs.FirstBytes.{begins_two, follows, follows_not, not_begun, second, to}

-- an ill-formed subpart
subpart_at : (part rest : List ℕ) → IsSubpart part rest → IsIllFormedUtf8At (part ++ rest) (Some (length part))
subpart_at part rest is = (is.no_char, sym is.len)

-- the beginning of a character, and nothing after it
cut_at : (bytes : List ℕ) → IsTail bytes → IsIllFormedUtf8At bytes None
cut_at bytes is = let undecided = tail_undecided bytes is in (undecided.0, sym undecided.1)

-- ---- a single byte

tail_one : (x : ℕ) → 0xC2 ≤ x → x ≤ 0xF4 → IsTail (x ∷ [])
tail_one x from to = ⊎_elim
    (λ (two : x < 0xE0). tail_two x from two)
    (λ (long : 0xE0 ≤ x). ⊎_elim
    (λ (three : x < 0xF0). tail_three_one x long three)
    (λ (four : 0xF0 ≤ x). tail_four_one x four to)
    (cases_lt x 0xF0))
    (cases_lt x 0xE0)

pub lone_lead : (x : ℕ) → 0xC2 ≤ x → x ≤ 0xF4 → IsIllFormedUtf8At (x ∷ []) None
lone_lead x from to = cut_at (x ∷ []) (tail_one x from to)

pub lone_other : (x : ℕ) → 0x80 ≤ x → is_in_range 0xC2 0xF4 x ≡ false → IsIllFormedUtf8At (x ∷ []) (Some 1)
lone_other x high out = ⊎_elim
    (λ (low : x < 0xC2). subpart_at (x ∷ []) [] (bad_first x [] high (inl low)))
    (λ (from : 0xC2 ≤ x). ⊎_elim
    (λ (past : 0xF4 < x). subpart_at (x ∷ []) [] (bad_first x [] high (inr past)))
    (λ (to : x ≤ 0xF4). absurd (grind (arith, nat_tests)))
    (cases_lt 0xF4 x))
    (cases_lt x 0xC2)

pub one_byte_is : (bytes : List ℕ) → length bytes ≡ 1 → slice_index bytes 0 ∷ [] ≡ bytes
one_byte_is [] one = absurd (omega arith)
one_byte_is (x ∷ []) one = refl
one_byte_is (x ∷ y ∷ more) one = absurd (omega arith)

-- ---- more bytes

pub not_begun_at : (bytes : List ℕ) → 2 ≤ length bytes → 0x80 ≤ slice_index bytes 0 → begins_two (slice_index bytes 0) (slice_index bytes 1) ≡ false
    → IsIllFormedUtf8At bytes (Some 1)
not_begun_at [] long high bad = absurd (omega arith)
not_begun_at (x ∷ []) long high bad = absurd (omega arith)
not_begun_at (x ∷ y ∷ rest) long high bad = subpart_at (x ∷ []) (y ∷ rest) (not_begun x y rest high bad)

pub cut_after_two : (bytes : List ℕ) → length bytes ≡ 2 → begins_two (slice_index bytes 0) (slice_index bytes 1) ≡ true → 0xE0 ≤ slice_index bytes 0
    → IsIllFormedUtf8At bytes None
cut_after_two [] two begins long = absurd (omega arith)
cut_after_two (x ∷ []) two begins long = absurd (omega arith)
cut_after_two (x ∷ y ∷ []) two begins long = cut_at (x ∷ y ∷ []) (⊎_elim
    (λ (three : x < 0xF0). tail_three x y long three (second x y begins))
    (λ (four : 0xF0 ≤ x). tail_four_two x y four (to x y begins) (second x y begins))
    (cases_lt x 0xF0))
cut_after_two (x ∷ y ∷ z ∷ more) two begins long = absurd (omega arith)

pub no_third_at : (bytes : List ℕ) → 3 ≤ length bytes → begins_two (slice_index bytes 0) (slice_index bytes 1) ≡ true → 0xE0 ≤ slice_index bytes 0
    → is_in_range 0x80 0xBF (slice_index bytes 2) ≡ false → IsIllFormedUtf8At bytes (Some 2)
no_third_at [] size begins long bad = absurd (omega arith)
no_third_at (x ∷ []) size begins long bad = absurd (omega arith)
no_third_at (x ∷ y ∷ []) size begins long bad = absurd (omega arith)
no_third_at (x ∷ y ∷ z ∷ rest) size begins long bad =
    subpart_at (x ∷ y ∷ []) (z ∷ rest) (bad_third x y z rest long (to x y begins) (second x y begins) (follows_not z bad))

pub cut_after_three : (bytes : List ℕ) → length bytes ≡ 3 → begins_two (slice_index bytes 0) (slice_index bytes 1) ≡ true → 0xF0 ≤ slice_index bytes 0
    → is_in_range 0x80 0xBF (slice_index bytes 2) ≡ true → IsIllFormedUtf8At bytes None
cut_after_three [] three begins long third = absurd (omega arith)
cut_after_three (x ∷ []) three begins long third = absurd (omega arith)
cut_after_three (x ∷ y ∷ []) three begins long third = absurd (omega arith)
cut_after_three (x ∷ y ∷ z ∷ []) three begins long third =
    cut_at (x ∷ y ∷ z ∷ []) (tail_four x y z long (to x y begins) (second x y begins) (follows z third))
cut_after_three (x ∷ y ∷ z ∷ w ∷ more) three begins long third = absurd (omega arith)

pub no_fourth_at : (bytes : List ℕ) → 4 ≤ length bytes → begins_two (slice_index bytes 0) (slice_index bytes 1) ≡ true → 0xF0 ≤ slice_index bytes 0
    → is_in_range 0x80 0xBF (slice_index bytes 2) ≡ true → is_in_range 0x80 0xBF (slice_index bytes 3) ≡ false → IsIllFormedUtf8At bytes (Some 3)
no_fourth_at [] size begins long third bad = absurd (omega arith)
no_fourth_at (x ∷ []) size begins long third bad = absurd (omega arith)
no_fourth_at (x ∷ y ∷ []) size begins long third bad = absurd (omega arith)
no_fourth_at (x ∷ y ∷ z ∷ []) size begins long third bad = absurd (omega arith)
no_fourth_at (x ∷ y ∷ z ∷ w ∷ rest) size begins long third bad =
    subpart_at (x ∷ y ∷ z ∷ []) (w ∷ rest) (bad_fourth x y z w rest long (to x y begins) (second x y begins) (follows z third) (follows_not w bad))
