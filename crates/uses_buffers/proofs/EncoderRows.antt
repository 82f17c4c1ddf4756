-- What the filters to UTF-16 write for known texts: each row is checked only by evaluation.
use Rattle.std.proofs.Common.{◌≡◌, ℕ, Bool, true, false, List, [], ◌∷◌, refl}
use Rattle.utf16_units.specs.Encoding.{encode}
use Rattle.utf16_streams.specs.Encoder.{with_bom}

-- the whole output for this text, without a BOM and with one
abbrev IsWritten : Bool → List ℕ → List ℕ → List ℕ → Type 0
IsWritten big text plain marked = (encode big text ≡ plain) × (with_bom big (encode big text) ≡ marked)

nothing : IsWritten true [] [] (0xFE ∷ 0xFF ∷ [])
unfolding encode
nothing = (refl, refl)

letter : IsWritten false (0x41 ∷ []) (0x41 ∷ 0x00 ∷ []) (0xFF ∷ 0xFE ∷ 0x41 ∷ 0x00 ∷ [])
unfolding encode
letter = (refl, refl)

pair : IsWritten true (0x1_0000 ∷ []) (0xD8 ∷ 0x00 ∷ 0xDC ∷ 0x00 ∷ []) (0xFE ∷ 0xFF ∷ 0xD8 ∷ 0x00 ∷ 0xDC ∷ 0x00 ∷ [])
unfolding encode
pair = (refl, refl)

-- a BOM of the input becomes the BOM, and a second one stays
bom_and_letter : IsWritten false (0xFEFF ∷ 0x41 ∷ []) (0xFF ∷ 0xFE ∷ 0x41 ∷ 0x00 ∷ []) (0xFF ∷ 0xFE ∷ 0x41 ∷ 0x00 ∷ [])
unfolding encode
bom_and_letter = (refl, refl)

two_boms : IsWritten true (0xFEFF ∷ 0xFEFF ∷ []) (0xFE ∷ 0xFF ∷ 0xFE ∷ 0xFF ∷ []) (0xFE ∷ 0xFF ∷ 0xFE ∷ 0xFF ∷ [])
unfolding encode
two_boms = (refl, refl)

-- U+FFFE is not a BOM
other_order : IsWritten true (0xFFFE ∷ []) (0xFF ∷ 0xFE ∷ []) (0xFE ∷ 0xFF ∷ 0xFF ∷ 0xFE ∷ [])
unfolding encode
other_order = (refl, refl)
