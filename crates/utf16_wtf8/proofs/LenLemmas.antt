-- How many bytes code units have in WTF-8: as many as their lossy text in UTF-8, because a
-- surrogate has three, like U+FFFD.
use Rattle.std.proofs.Common.{◌≡◌, ℕ, suc, ◌*◌, ◌/◌, ◌%◌, ◌≤◌, Bool, true, false, List, [], ◌∷◌, All, ⊎_elim, length, map, take, encode_utf8_all, refl, sym, ap, ◌∙◌, arith, append-nil, length-append, length-take-le}
use Rattle.std.proofs.lemmas.Bool.{cases_Bool}
use Rattle.std.proofs.lemmas.List.Elements.{All-head, All-tail}
use Rattle.std.proofs.lemmas.List.Concat.{flat_map-append}
use Rattle.std.specs.Char.{encode_utf8}
use Rattle.std.specs.List.{flat_map}
use Rattle.utf16_units.specs.Encoding.{units_of}
use Rattle.utf16_units.specs.IllFormed.{is_incomplete}
use Rattle.utf16_units.specs.Split.{IsItem, IsTail, Item, decided_text, good, lone_lead, lone_trail, lossy_char, lossy_chars, lossy_text, split_items, split_tail, whole_lossy_chars}
use Rattle.utf16_units.specs.Unit.{unit_of}
use Rattle.utf16_units.proofs.FirstChar.{AreBytes}
use Rattle.utf16_units.proofs.SplitIllFormed.{AreBytes-take}
use Rattle.utf16_units.proofs.SplitLemmas.{Split-computed, cut_tail, whole_tail}
use Rattle.utf16_units.proofs.SplitUnique.{IsTail-split_tail}
use Rattle.utf16_units.proofs.Utf8Lemmas.{three_bytes}
use Rattle.utf16_wtf8.specs.ToWtf8.{item_point, points_of}
use Rattle.utf16_wtf8.specs.Wtf8.{generalized_utf8}
use Rattle.utf16_wtf8.proofs.PointLemmas.{points_of-split, split_points}

-- a surrogate has the length of U+FFFD
surrogate_len : (unit : ℕ) → 0xD800 ≤ unit → unit ≤ 0xDFFF → length (generalized_utf8 unit) ≡ length (encode_utf8 0xFFFD)
surrogate_len unit from to =
    ap length (three_bytes unit (omega arith) (omega arith)) ∙ sym (ap length (three_bytes 0xFFFD (omega arith) (omega arith)))

item_len : (item : Item) → IsItem item → length (generalized_utf8 (item_point item)) ≡ length (encode_utf8 (lossy_char item))
item_len (good c) is = refl
item_len (lone_trail unit) is = let from = is.0 in let to = is.1 in surrogate_len unit (omega arith) (omega arith)
item_len (lone_lead unit) is = let from = is.0 in let to = is.1 in surrogate_len unit (omega arith) (omega arith)

items_len : (items : List Item) → All IsItem items → length (flat_map generalized_utf8 (map item_point items)) ≡ length (encode_utf8_all (lossy_chars items))
items_len [] are = refl
items_len (item ∷ items) are =
    let first = item_len item (All-head IsItem item items are) in
    let rest = items_len items (All-tail IsItem item items are) in
    omega (
      arith,
      length-append (generalized_utf8 (item_point item)) (flat_map generalized_utf8 (map item_point items)),
      length-append (encode_utf8 (lossy_char item)) (encode_utf8_all (lossy_chars items)),
    )

-- what is certain of any bytes
pub decided_len : (big : Bool) (raw : List ℕ) → AreBytes raw
    → length (flat_map generalized_utf8 (map item_point (split_items big raw))) ≡ length (encode_utf8_all (decided_text big raw))
decided_len big raw are = items_len (split_items big raw) (Split-computed big raw are).made

-- ---- whole code units

-- the tail of whole code units is nothing, or a code unit
even_tail : (big : Bool) (raw : List ℕ) → length raw % 2 ≡ 0 → length (split_tail big raw) % 2 ≡ 0
unfolding split_tail
even_tail big [] even = refl
even_tail big (last ∷ []) even = absurd (omega arith)
even_tail big (first ∷ second ∷ bytes) even = ⊎_elim
    (λ (cut : is_incomplete big (first ∷ second ∷ bytes) ≡ true). ap (λ t. length t % 2) (cut_tail big first second bytes cut) ∙ even)
    (λ (whole : is_incomplete big (first ∷ second ∷ bytes) ≡ false).
    ap (λ t. length t % 2) (whole_tail big first second bytes whole) ∙ even_tail big bytes (omega arith))
    (cases_Bool (is_incomplete big (first ∷ second ∷ bytes)))

whole_len : (big : Bool) (items : List Item) (tail : List ℕ) → All IsItem items → IsTail big tail → length tail % 2 ≡ 0
    → length (flat_map generalized_utf8 (split_points big items tail)) ≡ length (encode_utf8_all (whole_lossy_chars items tail))
whole_len big items [] are ends even = ap (λ points. length (flat_map generalized_utf8 points)) (append-nil (map item_point items)) ∙ items_len items are
whole_len big items (last ∷ []) are ends even = absurd (omega arith)
whole_len big items (first ∷ second ∷ after) are ends even =
    let lead = ends.0 in
    let unit = unit_of big first second in
    let last = surrogate_len unit (omega arith) (omega arith) in
    let front = items_len items are in
    let one = ap length (append-nil (generalized_utf8 unit)) in
    let other = ap length (append-nil (encode_utf8 0xFFFD)) in
    omega (
      arith,
      ap length (flat_map-append generalized_utf8 (map item_point items) (unit ∷ [])),
      length-append (flat_map generalized_utf8 (map item_point items)) (flat_map generalized_utf8 (unit ∷ [])),
      ap length (flat_map-append encode_utf8 (lossy_chars items) (0xFFFD ∷ [])),
      length-append (encode_utf8_all (lossy_chars items)) (encode_utf8_all (0xFFFD ∷ [])),
    )

-- the code units of bytes are those before an odd byte at the end
units_whole : (big : Bool) (raw : List ℕ) → units_of big raw ≡ units_of big (take (length raw / 2 * 2) raw)
unfolding units_of
units_whole big [] = refl
units_whole big (last ∷ []) = refl
units_whole big (first ∷ second ∷ bytes) =
    let two : length (first ∷ second ∷ bytes) / 2 * 2 ≡ suc (suc (length bytes / 2 * 2)) = omega arith in
    ap (λ units. unit_of big first second ∷ units) (units_whole big bytes)
    ∙ sym (ap (λ n. units_of big (take n (first ∷ second ∷ bytes))) two)

-- all code units of any bytes
pub points_len : (big : Bool) (raw : List ℕ) → AreBytes raw
    → length (flat_map generalized_utf8 (points_of big raw)) ≡ length (encode_utf8_all (lossy_text big (take (length raw / 2 * 2) raw)))
points_len big raw are = grind (arith, length-take-le, units_whole, points_of-split, whole_len, Split-computed, AreBytes-take, IsTail-split_tail, even_tail)
