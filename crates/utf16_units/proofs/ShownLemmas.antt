-- How many items bytes have, and the length in UTF-8 of their text with U+FFFD.
use Rattle.std.proofs.Common.{◌≡◌, ℕ, ◌+◌, ◌*◌, ◌<◌, ◌≤◌, Bool, List, [], ◌∷◌, length, encode_utf8_all, refl, sym, ap, ◌∙◌, ⊎_elim, arith, length-append, append-nil}
use Rattle.std.proofs.lemmas.Bool.{cases_lt}
use Rattle.std.proofs.lemmas.List.Concat.{flat_map-append}
use Rattle.std.proofs.lemmas.Str.{len_utf8_bounds, length-encode}
use Rattle.std.specs.Char.{encode_utf8, len_utf8}
use Rattle.utf16_units.specs.Encoding.{char_size}
use Rattle.utf16_units.specs.Split.{Item, Split, whole_lossy_chars, good, item_bytes, items_bytes, lone_lead, lone_trail, lossy_char, lossy_chars}
use Rattle.utf16_units.proofs.CharLemmas.{char_size_four, char_size_two, length-char_bytes}
use Rattle.utf16_units.proofs.UnitLemmas.{length-unit_bytes}

-- a character takes at most one and a half times as many bytes in UTF-8 as in UTF-16
pub len_utf8-le : (c : ℕ) → 2 * length (encode_utf8 c) ≤ 3 * char_size c
len_utf8-le c =
    let utf8 = length-encode c in
    let bounds = len_utf8_bounds c in
    ⊎_elim
    (λ (one : c < 0x1_0000).
    let three : len_utf8 c ≤ 3 = grind arith in
    omega (arith, char_size_two c one))
    (λ (two : 0x1_0000 ≤ c). omega (arith, char_size_four c two))
    (cases_lt c 0x1_0000)

two_bytes : (c : ℕ) → 2 ≤ char_size c
two_bytes c = ⊎_elim (λ (one : c < 0x1_0000). omega (arith, char_size_two c one)) (λ (two : 0x1_0000 ≤ c). omega (arith, char_size_four c two)) (cases_lt c 0x1_0000)

mark_within : length (encode_utf8 0xFFFD) ≡ 3
unfolding encode_utf8
mark_within = refl

-- an item has at least two bytes, and its character takes at most one and a half times as many
item_within : (big : Bool) (item : Item) → (2 ≤ length (item_bytes big item)) × (2 * length (encode_utf8 (lossy_char item)) ≤ 3 * length (item_bytes big item))
item_within big (good c) =
    let long = length-char_bytes big c in
    let some = two_bytes c in
    (omega arith, omega (arith, long, len_utf8-le c))
item_within big (lone_trail unit) =
    let two = length-unit_bytes big unit in
    (omega arith, omega (arith, two, mark_within))
item_within big (lone_lead unit) =
    let two = length-unit_bytes big unit in
    (omega arith, omega (arith, two, mark_within))

items_within : (big : Bool) (items : List Item)
    → (2 * length items ≤ length (items_bytes big items)) × (2 * length (encode_utf8_all (lossy_chars items)) ≤ 3 * length (items_bytes big items))
items_within big [] = (omega arith, omega arith)
items_within big (item ∷ items) =
    let first = item_within big item in
    let rest = items_within big items in
    let bytes = length-append (item_bytes big item) (items_bytes big items) in
    let utf8 = length-append (encode_utf8 (lossy_char item)) (encode_utf8_all (lossy_chars items)) in
    (omega arith, omega arith)

whole_within : (items : List Item) (tail : List ℕ) → 2 * length (encode_utf8_all (whole_lossy_chars items tail)) ≤ 2 * length (encode_utf8_all (lossy_chars items)) + 3 * length tail + 3
whole_within items [] = omega arith
whole_within items (first ∷ after) =
    let both =
    ap length (flat_map-append encode_utf8 (lossy_chars items) (0xFFFD ∷ [])) ∙ length-append (encode_utf8_all (lossy_chars items)) (encode_utf8_all (0xFFFD ∷ [])) in
    let last = ap length (append-nil (encode_utf8 0xFFFD)) in
    omega (arith, mark_within)

-- so do the items of a split, and its whole text
pub split_within : (big : Bool) (bytes : List ℕ) (items : List Item) (tail : List ℕ) → Split big bytes items tail
    → (2 * length items ≤ length bytes) × (2 * length (encode_utf8_all (lossy_chars items)) ≤ 3 * length bytes)
    × (2 * length (encode_utf8_all (whole_lossy_chars items tail)) ≤ 3 * length bytes + 3)
split_within big bytes items tail split =
    let all = sym (length-append (items_bytes big items) tail) ∙ ap length split.spelled in
    let within = items_within big items in
    let whole = whole_within items tail in
    (omega arith, omega arith, omega arith)
