-- The bytes of a character in UTF-8, by how many there are (Unicode, section 3.9: table 3-6).
use Rattle.std.proofs.Common.{◌≡◌, ℕ, ◌+◌, ◌/◌, ◌%◌, ◌<◌, ◌≤◌, [], ◌∷◌, refl, arith, lt-ltb, le-ltb}
use lib.Utf8.{encode}

pub one_byte : (c : ℕ) → c < 0x80 → encode c ≡ c ∷ []
unfolding encode
one_byte c a = rw (lt-ltb c 0x80 a) refl

pub two_bytes : (c : ℕ) → 0x80 ≤ c → c < 0x800 → encode c ≡ (192 + c / 64) ∷ (128 + c % 64) ∷ []
unfolding encode
two_bytes c a b = rw (le-ltb c 0x80 a, lt-ltb c 0x800 b) refl

pub three_bytes : (c : ℕ) → 0x800 ≤ c → c < 0x1_0000 → encode c ≡ (224 + c / 4096) ∷ (128 + c / 64 % 64) ∷ (128 + c % 64) ∷ []
unfolding encode
three_bytes c a b =
    let below : 0x80 ≤ c = omega arith in
    rw (le-ltb c 0x80 below, le-ltb c 0x800 a, lt-ltb c 0x1_0000 b) refl

pub four_bytes : (c : ℕ) → 0x1_0000 ≤ c → encode c ≡ (240 + c / 262144) ∷ (128 + c / 4096 % 64) ∷ (128 + c / 64 % 64) ∷ (128 + c % 64) ∷ []
unfolding encode
four_bytes c a =
    let below : 0x80 ≤ c = omega arith in
    let less : 0x800 ≤ c = omega arith in
    rw (le-ltb c 0x80 below, le-ltb c 0x800 less, le-ltb c 0x1_0000 a) refl
