-- Characters of three bytes, by their first, second and third bytes.
use Rattle.std.specs.Prelude.{◌≡◌, ℕ, zero, suc, ◌+◌, List, [], ◌∷◌, bit_and}

-- every third of some positions
abbrev pub every_third : ℕ → ℕ → List ℕ
every_third from zero = []
every_third from (suc n) = from ∷ every_third (from + 3) n

-- the bytes in order
abbrev pub woven : List ℕ → List ℕ → List ℕ → List ℕ
woven [] seconds thirds = []
woven (x ∷ firsts) [] thirds = []
woven (x ∷ firsts) (y ∷ seconds) [] = []
woven (x ∷ firsts) (y ∷ seconds) (z ∷ thirds) = x ∷ y ∷ z ∷ woven firsts seconds thirds

-- the upper bits are the upper bits of a character of three bytes (Unicode, section 3.9: table 3-6)
pub record IsThree (b2 b1 b0 : ℕ) : Type 0 where
  pub first : bit_and b2 0xF0 ≡ 0xE0
  pub second : bit_and b1 0xC0 ≡ 0x80
  pub third : bit_and b0 0xC0 ≡ 0x80
