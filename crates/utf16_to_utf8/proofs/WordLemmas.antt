-- The bytes of words of four bytes, and the table of their source indices.
use Rattle.std.proofs.Common.{◌≡◌, ℕ, zero, suc, ◌+◌, ◌-◌, ◌*◌, ◌/◌, ◌%◌, ◌^◌, ◌<◌, Bool, true, false, List, [], ◌∷◌, ◌++◌, count_ones, length, slice_index, get_or, take, drop, map, refl, sym, ap, ap₂, ◌∙◌, subst, arith, append_assoc, length-drop, length-take-le, ltb, add-mul, take_all}
use Rattle.std.proofs.lemmas.List.{get_or_append_left, get_or-append-add, drop-map, get_or-map, length-map, map-append, take-map}
use Rattle.std.proofs.lemmas.Simd.{mask_l-lt}
use Rattle.std.proofs.lemmas.Slice.Eq.{bytes_eq-Decides}
use Rattle.std.specs.List.{range_with_len}
use Rattle.std.specs.Str.{bytes_eq}
use Rattle.std.proofs.Math.Nat.{two-pow-succ}
use lib.Count.{ones}
use lib.Lanes.{chunk, mask_l, pick_l}
use Rattle.utf16_to_utf8.specs.declared.word_places.TheConstants.{WORD_PLACES}
use Rattle.utf16_to_utf8.specs.Pack.{fours, kept_bytes, packed_words}
use Rattle.utf16_to_utf8.specs.Utf8.{unit_utf8, units_utf8}
use Rattle.utf16_to_utf8.proofs.ListLemmas.{units-cons, units-nil}
use Rattle.utf16_to_utf8.proofs.PlaceLemmas.{Good, all_flags-each, each-good}

-- ---- the table, row by row

abbrev is_row : List Bool → Bool
is_row flags = bytes_eq (take (12 - count_ones (mask_l flags)) (get_or WORD_PLACES (mask_l flags) [])) (packed_words flags (range_with_len 0 16))

pub word_row : (flags : List Bool) → length flags ≡ 8 → take (12 - count_ones (mask_l flags)) (get_or WORD_PLACES (mask_l flags) []) ≡ packed_words flags (range_with_len 0 16)
unfolding ones
word_row flags long = (bytes_eq-Decides _ _).0 (all_flags-each 8 is_row refl flags long)

pub word_row-good : (k : ℕ) → k < 256 → Good (get_or WORD_PLACES k [])
word_row-good k below = each-good WORD_PLACES k below refl

-- ---- the bytes that are kept

kept-map : (f : ℕ → ℕ) (one two : Bool) (x y z w : ℕ) → map f (kept_bytes one two x y z w) ≡ kept_bytes one two (f x) (f y) (f z) (f w)
kept-map f true true x y z w = refl
kept-map f true false x y z w = refl
kept-map f false true x y z w = refl
kept-map f false false x y z w = refl

pub packed_words-map : (f : ℕ → ℕ) (flags : List Bool) (xs : List ℕ) → map f (packed_words flags xs) ≡ packed_words flags (map f xs)
packed_words-map f [] xs = refl
packed_words-map f (a ∷ []) xs = refl
packed_words-map f (a ∷ b ∷ flags) [] = refl
packed_words-map f (a ∷ b ∷ flags) (x ∷ []) = refl
packed_words-map f (a ∷ b ∷ flags) (x ∷ y ∷ []) = refl
packed_words-map f (a ∷ b ∷ flags) (x ∷ y ∷ z ∷ []) = refl
packed_words-map f (a ∷ b ∷ flags) (x ∷ y ∷ z ∷ w ∷ xs) =
    map-append f (kept_bytes a b x y z w) (packed_words flags xs) ∙ ap₂ (λ s t. s ++ t) (kept-map f a b x y z w) (packed_words-map f flags xs)

pub packed_words-append : (flags more : List Bool) (bytes rest : List ℕ) → length flags % 2 ≡ 0 → length bytes ≡ 2 * length flags
    → packed_words flags bytes ++ packed_words more rest ≡ packed_words (flags ++ more) (bytes ++ rest)
packed_words-append [] more [] rest even long = refl
packed_words-append [] more (x ∷ bytes) rest even long = absurd (omega arith)
packed_words-append (a ∷ []) more bytes rest even long = absurd (omega arith)
packed_words-append (a ∷ b ∷ flags) more [] rest even long = absurd (omega arith)
packed_words-append (a ∷ b ∷ flags) more (x ∷ []) rest even long = absurd (omega arith)
packed_words-append (a ∷ b ∷ flags) more (x ∷ y ∷ []) rest even long = absurd (omega arith)
packed_words-append (a ∷ b ∷ flags) more (x ∷ y ∷ z ∷ []) rest even long = absurd (omega arith)
packed_words-append (a ∷ b ∷ flags) more (x ∷ y ∷ z ∷ w ∷ bytes) rest even long =
    append_assoc (kept_bytes a b x y z w) (packed_words flags bytes) (packed_words more rest)
    ∙ ap (λ t. kept_bytes a b x y z w ++ t) (packed_words-append flags more bytes rest (omega arith) (omega arith))

-- the bits of the first n flags and of the other flags
pub mask-parts : (n : ℕ) (flags : List Bool) → mask_l flags ≡ mask_l (take n flags) + 2 ^ n * mask_l (drop n flags)
mask-parts zero flags = omega arith
mask-parts (suc n) [] = omega arith
mask-parts (suc n) (flag ∷ flags) =
    let rest = mask_l (drop n flags) in
    let twice = ap (λ k. k * rest) (two-pow-succ n) ∙ add-mul (2 ^ n) (2 ^ n) rest in
    omega (arith, mask-parts n flags, twice)

-- the bits of sixteen flags
pub mask-halves : (flags : List Bool) (bits : ℕ) → length flags ≡ 16 → bits ≡ mask_l flags → (bits % 256 ≡ mask_l (take 8 flags)) × (bits / 256 ≡ mask_l (drop 8 flags))
mask-halves flags bits long is =
    let low : length (take 8 flags) ≡ 8 = length-take-le 8 flags (omega (arith, long)) in
    let below = subst (λ n. mask_l (take 8 flags) < 2 ^ n) low (mask_l-lt (take 8 flags)) in
    let parts = is ∙ mask-parts 8 flags in
    (omega (arith, below, parts), omega (arith, below, parts))

-- the bits of sixteen units
pub mask-eights : (f : ℕ → Bool) (units : List ℕ) (bits : ℕ) → length units ≡ 16 → bits ≡ mask_l (map f units)
    → (bits % 256 ≡ mask_l (map f (chunk 0 8 units))) × (bits / 256 ≡ mask_l (map f (chunk 8 8 units)))
mask-eights f units bits long is =
    let halves = mask-halves (map f units) bits (length-map units f ∙ long) is in
    let high = sym (take_all 8 (drop 8 units) (omega (arith, length-drop 8 units, long))) in
    (halves.0 ∙ ap mask_l (take-map f 8 units), halves.1 ∙ ap mask_l (drop-map f 8 units) ∙ ap (λ us. mask_l (map f us)) high)

-- ---- the UTF-8 of units, each of which has a word

abbrev kept_at : List ℕ → Bool → Bool → ℕ → List ℕ
kept_at bytes one two i = kept_bytes one two (slice_index bytes (2 * i)) (slice_index bytes (2 * i + 1)) (slice_index bytes (16 + 2 * i)) (slice_index bytes (17 + 2 * i))

pub fours-units : (before : ℕ) (flags : List Bool) (units bytes : List ℕ) (at : ℕ) → length flags ≡ 2 * length units
    → ((i : ℕ) → i < length units → kept_at bytes (get_or flags (2 * i) false) (get_or flags (2 * i + 1) false) (at + i) ≡ unit_utf8 (slice_index (before ∷ units) i) (slice_index units i))
    → packed_words flags (pick_l 0 bytes (fours at (length units))) ≡ units_utf8 before units
fours-units before [] [] bytes at long are = sym (units-nil before)
fours-units before [] (u ∷ units) bytes at long are = absurd (omega arith)
fours-units before (a ∷ flags) [] bytes at long are = absurd (omega arith)
fours-units before (a ∷ []) (u ∷ units) bytes at long are = absurd (omega arith)
fours-units before (a ∷ b ∷ flags) (u ∷ units) bytes at long are =
    let here : at + 0 ≡ at = omega arith in
    ap₂ (λ xs ys. xs ++ ys) (ap (kept_at bytes a b) (sym here) ∙ are 0 (omega arith))
    (fours-units u flags units bytes (at + 1) (omega arith) (λ i lt.
    let next : at + 1 + i ≡ at + suc i = omega arith in
    let even : suc (suc (2 * i)) ≡ 2 * suc i = omega arith in
    let odd : suc (suc (2 * i + 1)) ≡ 2 * suc i + 1 = omega arith in
    ap (kept_at bytes (get_or flags (2 * i) false) (get_or flags (2 * i + 1) false)) next
    ∙ ap₂ (λ m n. kept_at bytes (get_or (a ∷ b ∷ flags) m false) (get_or (a ∷ b ∷ flags) n false) (at + suc i)) even odd ∙ are (suc i) (omega arith)))
    ∙ sym (units-cons before u units)

-- the bytes of a word by the bytes of its lanes
pub kept-by : (outers endings absent : List ℕ) (i x y z w a b : ℕ) → length outers ≡ 16 → length absent ≡ 16 → i < 8
    → slice_index outers (2 * i) ≡ x → slice_index outers (2 * i + 1) ≡ y → slice_index endings (2 * i) ≡ z → slice_index endings (2 * i + 1) ≡ w
    → slice_index absent (2 * i) ≡ a → slice_index absent (2 * i + 1) ≡ b
    → kept_at (outers ++ endings) (get_or (map (λ byte. ltb 127 byte) absent) (2 * i) false) (get_or (map (λ byte. ltb 127 byte) absent) (2 * i + 1) false) (0 + i)
    ≡ kept_bytes (ltb 127 a) (ltb 127 b) x y z w
kept-by outers endings absent i x y z w a b long eight lt px py pz pw pa pb =
    let both = outers ++ endings in
    let far = λ (byte : ℕ). ltb 127 byte in
    let flag = λ (j n : ℕ) (room : j < length absent) (e : slice_index absent j ≡ n). get_or-map far absent j 0 false room ∙ ap far e in
    let here : 0 + i ≡ i = omega arith in
    let third : 16 + 2 * i ≡ length outers + 2 * i = omega (arith, long) in
    let fourth : 17 + 2 * i ≡ length outers + (2 * i + 1) = omega (arith, long) in
    ap (kept_at both (get_or (map far absent) (2 * i) false) (get_or (map far absent) (2 * i + 1) false)) here
    ∙ rw (
      flag (2 * i) a (omega (arith, lt, eight)) pa,
      flag (2 * i + 1) b (omega (arith, lt, eight)) pb,
      get_or_append_left outers endings 0 (2 * i) (omega (arith, lt, long)) ∙ px,
      get_or_append_left outers endings 0 (2 * i + 1) (omega (arith, lt, long)) ∙ py,
      ap (slice_index both) third ∙ get_or-append-add outers endings (2 * i) 0 ∙ pz,
      ap (slice_index both) fourth ∙ get_or-append-add outers endings (2 * i + 1) 0 ∙ pw,
    ) refl
