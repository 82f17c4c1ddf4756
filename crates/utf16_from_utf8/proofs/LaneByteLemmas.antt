-- The two bytes of a unit, and of the unit of a character of three bytes, as the lanes compute
-- them.
use Rattle.std.proofs.Common.{[], ◌∷◌, ◌≡◌, ℕ, ◌+◌, ◌*◌, ◌/◌, ◌%◌, Bool, true, false, bit_and, ap₂, ◌∙◌, arith}
use Rattle.std.proofs.lemmas.Nat.{and_mask}
use Rattle.utf16_units.specs.Unit.{unit_bytes}
use Rattle.utf16_from_utf8.specs.Lanes.{pair_bytes}
use Rattle.utf16_from_utf8.specs.UnitLanes.{AreBytes, short_low, three_high}

pub bytes-by : (unit high low high' low' : ℕ) → high ≡ high' → low ≡ low' → AreBytes unit high' low' → AreBytes unit high low
bytes-by unit high low high' low' h l are = record { is_high = h ∙ are.is_high; is_low = l ∙ are.is_low }

pub pair-unit : (big : Bool) (unit high low : ℕ) → AreBytes unit high low → pair_bytes big high low ≡ unit_bytes big unit
pair-unit true unit high low are = ap₂ (λ x y. x ∷ y ∷ []) are.is_high are.is_low
pair-unit false unit high low are = ap₂ (λ x y. y ∷ x ∷ []) are.is_high are.is_low

pub three-bytes : (b2 b1 b0 : ℕ) → AreBytes (b2 % 16 * 4096 + (b1 % 64 * 64 + b0 % 64)) (three_high b2 b1) (short_low b1 b0)
three-bytes b2 b1 b0 =
    let mid : bit_and (b1 / 4) 0xF ≡ b1 / 4 % 16 = and_mask (b1 / 4) 4 in
    let last : bit_and b0 0x3F ≡ b0 % 64 = and_mask b0 6 in
    record { is_high = omega (arith, mid); is_low = omega (arith, last) }
