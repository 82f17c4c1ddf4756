-- Bytes of which each code unit is changed.
use Rattle.std.proofs.Common.{◌≡◌, ℕ, Bool, true, false, List, [], ◌∷◌, ◌++◌, map, refl, sym, ap, ap₂, ◌∙◌, arith, append_assoc, flat_map}
use Rattle.std.specs.Char.Escape.{encode_utf16}
use Rattle.utf16_units.specs.Encoding.{encode}
use Rattle.utf16_units.specs.Unit.{unit_bytes, unit_of}
use Rattle.utf16_units.proofs.EncodingLemmas.{encode-cons, encode-nil}

-- bytes with each code unit changed; an odd byte at the end stays
unfoldable pub changed : (ℕ → ℕ) → Bool → List ℕ → List ℕ
changed f big [] = []
changed f big (last ∷ []) = last ∷ []
changed f big (first ∷ second ∷ bytes) = unit_bytes big (f (unit_of big first second)) ++ changed f big bytes

changed-unit : (f : ℕ → ℕ) (big : Bool) (u : ℕ) (bytes : List ℕ) → changed f big (unit_bytes big u ++ bytes) ≡ unit_bytes big (f u) ++ changed f big bytes
unfolding changed
changed-unit f true u bytes = ap (λ v. unit_bytes true (f v) ++ changed f true bytes) (omega arith)
changed-unit f false u bytes = ap (λ v. unit_bytes false (f v) ++ changed f false bytes) (omega arith)

changed-units : (f : ℕ → ℕ) (big : Bool) (units bytes : List ℕ) → changed f big (flat_map (unit_bytes big) units ++ bytes) ≡ flat_map (unit_bytes big) (map f units) ++ changed f big bytes
changed-units f big [] bytes = refl
changed-units f big (u ∷ units) bytes =
    ap (changed f big) (append_assoc (unit_bytes big u) (flat_map (unit_bytes big) units) bytes)
    ∙ changed-unit f big u (flat_map (unit_bytes big) units ++ bytes)
    ∙ ap (λ t. unit_bytes big (f u) ++ t) (changed-units f big units bytes)
    ∙ sym (append_assoc (unit_bytes big (f u)) (flat_map (unit_bytes big) (map f units)) (changed f big bytes))

changed-nil : (f : ℕ → ℕ) (big : Bool) → changed f big [] ≡ []
unfolding changed
changed-nil f big = refl

-- the change of a character is the change of each of its units
pub changed-encode : (f : ℕ → ℕ) (big : Bool) → ((c : ℕ) → encode_utf16 (f c) ≡ map f (encode_utf16 c)) → (text : List ℕ) → changed f big (encode big text) ≡ encode big (map f text)
changed-encode f big alike [] = ap (changed f big) (encode-nil big) ∙ changed-nil f big ∙ sym (encode-nil big)
changed-encode f big alike (c ∷ text) =
    ap (changed f big) (encode-cons big c text)
    ∙ changed-units f big (encode_utf16 c) (encode big text)
    ∙ ap₂ (λ us t. flat_map (unit_bytes big) us ++ t) (sym (alike c)) (changed-encode f big alike text)
    ∙ sym (encode-cons big (f c) (map f text))
