-- How many items bytes have, and the length in UTF-16 and in UTF-8 of their text with U+FFFD.
use Rattle.std.proofs.Common.{◌≡◌, ℕ, ◌*◌, ◌<◌, ◌≤◌, List, [], ◌∷◌, ◌++◌, length, encode_utf8_all, refl, sym, ap, ◌∙◌, arith, append-nil, length-append}
use Rattle.std.proofs.lemmas.List.Concat.{flat_map-append}
use Rattle.std.proofs.lemmas.Str.{len_utf8_bounds, length-encode}
use Rattle.std.specs.Char.{encode_utf8}
use Rattle.utf16_units.specs.Encoding.{char_size, size}
use Rattle.utf16_units.proofs.CharLemmas.{char_size-le, char_size_two}
use Rattle.utf16_units.proofs.EncodingLemmas.{size-append, size-cons}
use Rattle.utf8_bytes.specs.Split.{AreItems, IsTail, Item, Split, good, ill, item_bytes, items_bytes, lossy_char, lossy_chars, whole_lossy_chars}
use Rattle.utf8_bytes.proofs.BeginsLemmas.{some_bytes}
use Rattle.utf8_bytes.proofs.PartLemmas.{subpart_len}
use Rattle.utf8_bytes.proofs.LossyLemmas.{tail_text, whole_is}

pub replacement_size : char_size 0xFFFD ≡ 2
replacement_size = char_size_two 0xFFFD (omega arith)

replacement_len : length (encode_utf8 0xFFFD) ≡ 3
unfolding encode_utf8
replacement_len = refl

-- an item has a byte, and its character takes at most two in UTF-16 for each, and three in UTF-8
item_within : (item : Item) (items : List Item) (tail : List ℕ) → AreItems (item ∷ items) tail
    → (1 ≤ length (item_bytes item)) × (char_size (lossy_char item) ≤ 2 * length (item_bytes item))
    × (length (encode_utf8 (lossy_char item)) ≤ 3 * length (item_bytes item))
item_within (good c) items tail are =
    let some = some_bytes c in
    (omega arith, char_size-le c, omega arith)
item_within (ill part) items tail are =
    let some = (subpart_len part (items_bytes items ++ tail) are.0).0 in
    (omega arith, omega (arith, replacement_size), omega (arith, replacement_len))

pub items_within : (items : List Item) (tail : List ℕ) → AreItems items tail
    → (length items ≤ length (items_bytes items)) × (size (lossy_chars items) ≤ 2 * length (items_bytes items))
    × (length (encode_utf8_all (lossy_chars items)) ≤ 3 * length (items_bytes items))
unfolding size
items_within [] tail are = (omega arith, omega arith, omega arith)
items_within (item ∷ items) tail are =
    let first = item_within item items tail are in
    let rest = items_within items tail are.1 in
    let bytes = length-append (item_bytes item) (items_bytes items) in
    let utf16 = size-cons (lossy_char item) (lossy_chars items) in
    let utf8 = length-append (encode_utf8 (lossy_char item)) (encode_utf8_all (lossy_chars items)) in
    let one = first.0 in
    let two = first.1 in
    let three = first.2 in
    let one_more = rest.0 in
    let two_more = rest.1 in
    let three_more = rest.2 in
    (omega arith, omega arith, omega arith)

pub tail_within : (tail : List ℕ) → (size (tail_text tail) ≤ 2 * length tail) × (length (encode_utf8_all (tail_text tail)) ≤ 3 * length tail)
unfolding size
tail_within [] = (omega arith, omega arith)
tail_within (first ∷ after) =
    let utf16 = size-cons 0xFFFD [] in
    let utf8 = ap length (append-nil (encode_utf8 0xFFFD)) in
    (omega (arith, replacement_size), omega (arith, replacement_len))

-- a tail is shorter than a character
pub length-IsTail : (tail : List ℕ) → IsTail tail → length tail ≤ 3
length-IsTail tail ends =
    let all = sym (length-append tail ends.more) ∙ ap length ends.spelled in
    let most = (len_utf8_bounds ends.char).1 in
    let long = length-encode ends.char in
    let some = some_more ends.more ends.some in
    omega arith
  where
    some_more : (more : List ℕ) → (more ≡ [] → ⊥) → 0 < length more
    some_more [] some = absurd (some refl)
    some_more (b ∷ more) some = omega arith

-- so do the items of a split, and its whole text
pub split_within : (bytes : List ℕ) (items : List Item) (tail : List ℕ) → Split bytes items tail
    → (length items ≤ length bytes) × (length tail ≤ 3) × (size (lossy_chars items) ≤ 2 * length bytes) × (size (whole_lossy_chars items tail) ≤ 2 * length bytes)
    × (length (encode_utf8_all (whole_lossy_chars items tail)) ≤ 3 * length bytes)
split_within bytes items tail split =
    let all = sym (length-append (items_bytes items) tail) ∙ ap length split.spelled in
    let within = items_within items tail split.made in
    let last = tail_within tail in
    let whole = whole_is items tail in
    let utf16 = ap size whole ∙ size-append (lossy_chars items) (tail_text tail) in
    let utf8 = ap (λ t. length (encode_utf8_all t)) whole ∙ ap length (flat_map-append encode_utf8 (lossy_chars items) (tail_text tail))
    ∙ length-append (encode_utf8_all (lossy_chars items)) (encode_utf8_all (tail_text tail)) in
    let count = within.0 in
    let two = within.1 in
    let three = within.2 in
    let two_last = last.0 in
    let three_last = last.1 in
    (omega arith, length-IsTail tail split.ends, omega arith, omega arith, omega arith)
