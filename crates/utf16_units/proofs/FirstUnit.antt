-- The unit at the start of bytes.
use Rattle.std.proofs.Common.{◌≡◌, ℕ, ◌*◌, ◌/◌, ◌<◌, ◌≤◌, Bool, List, [], ◌∷◌, ◌++◌, get_or, length, take, drop, sym, ap, ap₂, ◌∙◌, arith, take-append-drop, append_assoc}
use Rattle.utf16_units.specs.Unit.{unit_bytes, unit_of}
use Rattle.utf16_units.specs.Encoding.{Encodes, encode, size}
use Rattle.utf16_units.proofs.UnitLemmas.{unit_bytes-unit_of}
use Rattle.utf16_units.proofs.EncodingLemmas.{length-encode}

-- the bytes of the unit of the first two bytes are these two
pub first_unit : (big : Bool) (bytes : List ℕ) → ((k : ℕ) → get_or bytes k 0 < 256) → 2 ≤ length bytes
    → unit_bytes big (unit_of big (get_or bytes 0 0) (get_or bytes 1 0)) ≡ take 2 bytes
first_unit big [] are two = absurd (omega (arith, two))
first_unit big (first ∷ []) are two = absurd (omega (arith, two))
first_unit big (first ∷ second ∷ bytes) are two = unit_bytes-unit_of big first second (are 0) (are 1)

-- a text follows a unit whose value is the number of the text's units, and the unit may be in
-- another byte order: the bytes start with that number and then the text's encoding
pub counted_text : (order big : Bool) (bytes text front rest : List ℕ) → ((k : ℕ) → get_or bytes k 0 < 256) → 2 ≤ length bytes
    → front ++ rest ≡ drop 2 bytes → length front ≡ 2 * unit_of order (get_or bytes 0 0) (get_or bytes 1 0) → Encodes big text front
    → bytes ≡ (unit_bytes order (size text / 2) ++ encode big text) ++ rest
counted_text order big bytes text front rest are two behind counted e =
    let count : unit_of order (get_or bytes 0 0) (get_or bytes 1 0) ≡ size text / 2 = omega (arith, length-encode big text, ap length e.spelled, counted) in
    let whole = ap₂ (λ x y. x ++ y) (sym (first_unit order bytes are two) ∙ ap (unit_bytes order) count) (sym behind ∙ ap (λ t. t ++ rest) (sym e.spelled)) in
    sym (take-append-drop 2 bytes) ∙ whole ∙ sym (append_assoc (unit_bytes order (size text / 2)) (encode big text) rest)
