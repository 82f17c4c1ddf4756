-- The BOM computed for known streams: each row is checked only by evaluation.
use Rattle.std.proofs.Common.{◌≡◌, ℕ, Bool, true, false, List, [], ◌∷◌, None, Some, refl}
use Rattle.utf16_streams.specs.Bom.{big_in, byte_order_after, text_in}

-- the stream is decoded in this order, `text` are the bytes of its text, and what follows is
-- decoded in the same order
abbrev IsRead : Bool → List ℕ → List ℕ → Type 0
IsRead big bytes text = (big_in None bytes ≡ big) × (text_in None bytes ≡ text) × (byte_order_after None bytes ≡ Some big)

big_endian : IsRead true (0xFE ∷ 0xFF ∷ 0x00 ∷ 0x41 ∷ []) (0x00 ∷ 0x41 ∷ [])
big_endian = (refl, refl, refl)

little_endian : IsRead false (0xFF ∷ 0xFE ∷ 0x41 ∷ 0x00 ∷ []) (0x41 ∷ 0x00 ∷ [])
little_endian = (refl, refl, refl)

no_mark : IsRead true (0x41 ∷ 0x00 ∷ []) (0x41 ∷ 0x00 ∷ [])
no_mark = (refl, refl, refl)

half_a_mark : IsRead true (0xFF ∷ 0xFD ∷ []) (0xFF ∷ 0xFD ∷ [])
half_a_mark = (refl, refl, refl)

second_mark : IsRead false (0xFF ∷ 0xFE ∷ 0xFF ∷ 0xFE ∷ []) (0xFF ∷ 0xFE ∷ [])
second_mark = (refl, refl, refl)

mark_alone : IsRead false (0xFF ∷ 0xFE ∷ []) []
mark_alone = (refl, refl, refl)

one_byte : (text_in None (0xFF ∷ []) ≡ 0xFF ∷ []) × (byte_order_after None (0xFF ∷ []) ≡ None)
one_byte = (refl, refl)

known_order : text_in (Some false) (0xFF ∷ 0xFE ∷ 0x41 ∷ 0x00 ∷ []) ≡ 0xFF ∷ 0xFE ∷ 0x41 ∷ 0x00 ∷ []
known_order = refl
