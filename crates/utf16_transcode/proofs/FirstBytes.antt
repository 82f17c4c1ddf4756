-- The bytes of a character of two, three or four bytes (Unicode, table 3-7).
use Rattle.std.proofs.Common.{◌≡◌, ℕ, ◌+◌, ◌-◌, ◌*◌, ◌<◌, ◌≤◌, Bool, true, false, List, [], ◌∷◌, arith, ⊎_elim, inl, inr}
use Rattle.std.proofs.lemmas.Bool.{cases_lt}
use Rattle.std.proofs.lemmas.Bool.Decides.{nat_tests}
use Rattle.std.proofs.str.Laws.{Follows}
use Rattle.std.specs.Prelude.{◌&&◌}
use Rattle.std.specs.Char.{encode_utf8}
use Rattle.std.specs.Int.{is_in_range}
use Rattle.std.specs.Str.Lossy.{second_byte_max, second_byte_min}
use Rattle.utf8_bytes.specs.Split.{IsSubpart}
use Rattle.utf8_bytes.proofs.TableLemmas.{IsSecond, bad_first, bad_second, four_spelled, second_follows, three_spelled, two_spelled}

-- a test for a third or fourth byte
pub follows : (z : ℕ) → is_in_range 0x80 0xBF z ≡ true → Follows z
follows z test = (grind (arith, nat_tests), grind (arith, nat_tests))

pub follows_not : (z : ℕ) → is_in_range 0x80 0xBF z ≡ false → ¬ (Follows z)
follows_not z test is =
    let above = is.0 in
    let below = is.1 in
    grind (arith, nat_tests)

-- whether a character of two bytes or more can begin with these two
abbrev pub begins_two : ℕ → ℕ → Bool
begins_two x y = is_in_range 0xC2 0xF4 x && is_in_range (second_byte_min x) (second_byte_max x) y

-- a byte that begins no character together with the byte after it
pub not_begun : (x y : ℕ) (rest : List ℕ) → 0x80 ≤ x → begins_two x y ≡ false → IsSubpart (x ∷ []) (y ∷ rest)
not_begun x y rest high bad = ⊎_elim
    (λ (low : x < 0xC2). bad_first x (y ∷ rest) high (inl low))
    (λ (from : 0xC2 ≤ x). ⊎_elim
    (λ (past : 0xF4 < x). bad_first x (y ∷ rest) high (inr past))
    (λ (to : x ≤ 0xF4). bad_second x y rest from to (λ second. not_second from to second))
    (cases_lt 0xF4 x))
    (cases_lt x 0xC2) where
      not_second : 0xC2 ≤ x → x ≤ 0xF4 → ¬ (IsSecond x y)
      not_second from to second = grind (arith, nat_tests)

module _ (x y : ℕ) (begins : begins_two x y ≡ true) where
  from : 0xC2 ≤ x
  from = grind (arith, nat_tests)

  pub to : x ≤ 0xF4
  to = grind (arith, nat_tests)

  pub second : IsSecond x y
  second = grind (arith, nat_tests)

  pub two : x < 0xE0 → encode_utf8 ((x - 192) * 64 + (y - 128)) ≡ x ∷ y ∷ []
  two short = (two_spelled x y from short (second_follows x y second)).spelled

  module _ (z : ℕ) (is_third : is_in_range 0x80 0xBF z ≡ true) where
    pub three : 0xE0 ≤ x → x < 0xF0 → encode_utf8 ((x - 224) * 4096 + (y - 128) * 64 + (z - 128)) ≡ x ∷ y ∷ z ∷ []
    three long short = (three_spelled x y z long short second (follows z is_third)).spelled

    pub four : (w : ℕ) → 0xF0 ≤ x → is_in_range 0x80 0xBF w ≡ true
        → encode_utf8 ((x - 240) * 262144 + (y - 128) * 4096 + (z - 128) * 64 + (w - 128)) ≡ x ∷ y ∷ z ∷ w ∷ []
    four w longer fourth = (four_spelled x y z w longer to second (follows z is_third) (follows w fourth)).spelled
