-- The split computed of known bytes, most of them ill-formed: evaluation checks each row.
use Rattle.std.specs.Prelude.{◌≡◌, ℕ, Bool, true, false, List, [], ◌∷◌, ◌++◌, length, refl, bytes_eq}
use Rattle.std.proofs.Common.{ap, arith}
use Rattle.std.specs.Char.{encode_utf8}
use Rattle.std.specs.List.{flat_map, list_all}
use Rattle.std.specs.Str.{chars, is_utf8}
use Rattle.std.specs.Str.Lossy.{utf8_error_len, utf8_lossy, utf8_valid_len}
use Rattle.utf8_bytes.specs.Split.{Item, good, ill, split_items, split_tail, whole_lossy_chars}

-- bytes, the items and the tail of their split, and their lossy text
record Shown : Type 0 where
  bytes : List ℕ
  items : List Item
  tail : List ℕ
  text : List ℕ

-- an item as numbers: its kind, and the character, or the number of its bytes and these
abbrev item_numbers : Item → List ℕ
item_numbers (good c) = 0 ∷ c ∷ []
item_numbers (ill part) = 1 ∷ length part ∷ part

abbrev both : Bool → Bool → Bool
both true b = b
both false b = false

abbrev is_shown : Shown → Bool
is_shown row =
    let items = split_items row.bytes in
    let tail = split_tail row.bytes in
    both (bytes_eq (flat_map item_numbers items) (flat_map item_numbers row.items))
    (both (bytes_eq tail row.tail)
    (both (bytes_eq (whole_lossy_chars items tail) row.text) (bytes_eq (chars (utf8_lossy row.bytes)) row.text)))

abbrev shown : List ℕ → List Item → List ℕ → List ℕ → Shown
shown bytes items tail text = record { bytes = bytes; items = items; tail = tail; text = text }

abbrev rows : List Shown
rows =
    shown [] [] [] []
    ∷ shown (0x41 ∷ []) (good 0x41 ∷ []) [] (0x41 ∷ [])
    ∷ shown (0xE4 ∷ 0xB8 ∷ 0xAD ∷ 0xF0 ∷ 0x9F ∷ 0x98 ∷ 0x80 ∷ []) (good 0x4E2D ∷ good 0x1F600 ∷ []) [] (0x4E2D ∷ 0x1F600 ∷ [])
    ∷ shown (0xE4 ∷ 0xB8 ∷ []) [] (0xE4 ∷ 0xB8 ∷ []) (0xFFFD ∷ [])
    ∷ shown (0x41 ∷ 0xE4 ∷ 0xB8 ∷ []) (good 0x41 ∷ []) (0xE4 ∷ 0xB8 ∷ []) (0x41 ∷ 0xFFFD ∷ [])
    ∷ shown (0xE4 ∷ 0xB8 ∷ 0x41 ∷ []) (ill (0xE4 ∷ 0xB8 ∷ []) ∷ good 0x41 ∷ []) [] (0xFFFD ∷ 0x41 ∷ [])
    ∷ shown (0xF0 ∷ 0x9F ∷ 0x98 ∷ []) [] (0xF0 ∷ 0x9F ∷ 0x98 ∷ []) (0xFFFD ∷ [])
    ∷ shown (0xF0 ∷ 0x9F ∷ 0x98 ∷ 0x41 ∷ []) (ill (0xF0 ∷ 0x9F ∷ 0x98 ∷ []) ∷ good 0x41 ∷ []) [] (0xFFFD ∷ 0x41 ∷ [])
    ∷ shown (0xED ∷ 0xA0 ∷ 0x80 ∷ []) (ill (0xED ∷ []) ∷ ill (0xA0 ∷ []) ∷ ill (0x80 ∷ []) ∷ []) [] (0xFFFD ∷ 0xFFFD ∷ 0xFFFD ∷ [])
    ∷ shown (0xC0 ∷ 0x80 ∷ []) (ill (0xC0 ∷ []) ∷ ill (0x80 ∷ []) ∷ []) [] (0xFFFD ∷ 0xFFFD ∷ [])
    ∷ shown (0xFF ∷ []) (ill (0xFF ∷ []) ∷ []) [] (0xFFFD ∷ [])
    ∷ shown (0xF4 ∷ 0x90 ∷ []) (ill (0xF4 ∷ []) ∷ ill (0x90 ∷ []) ∷ []) [] (0xFFFD ∷ 0xFFFD ∷ [])
    ∷ shown (0xC3 ∷ 0xC3 ∷ 0xA9 ∷ 0xC3 ∷ []) (ill (0xC3 ∷ []) ∷ good 0xE9 ∷ []) (0xC3 ∷ []) (0xFFFD ∷ 0xE9 ∷ 0xFFFD ∷ [])
    ∷ shown (0xE1 ∷ 0x80 ∷ 0xE2 ∷ 0xF0 ∷ 0x91 ∷ 0x92 ∷ 0xF1 ∷ 0xBF ∷ 0x41 ∷ [])
    (ill (0xE1 ∷ 0x80 ∷ []) ∷ ill (0xE2 ∷ []) ∷ ill (0xF0 ∷ 0x91 ∷ 0x92 ∷ []) ∷ ill (0xF1 ∷ 0xBF ∷ []) ∷ good 0x41 ∷ []) []
    (0xFFFD ∷ 0xFFFD ∷ 0xFFFD ∷ 0xFFFD ∷ 0x41 ∷ [])
    ∷ []

rows_shown : list_all is_shown rows ≡ true
unfolding split_items split_tail chars is_utf8 utf8_error_len utf8_lossy utf8_valid_len encode_utf8
rows_shown = refl

-- the items of two chunks are not the items of each chunk by itself: the tail of the first comes
-- before the second
seam_counts : ¬ ((front back : List ℕ) → split_items (front ++ back) ≡ split_items front ++ split_items back)
unfolding split_items split_tail chars is_utf8 utf8_error_len utf8_valid_len encode_utf8
seam_counts each_alone =
    let same : 1 ≡ 2 = ap (λ items. length items) (each_alone (0xE4 ∷ []) (0xB8 ∷ 0xAD ∷ [])) in
    omega (arith, same)
