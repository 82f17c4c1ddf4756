-- What bytes begin with: a character, an ill-formed subpart, or neither yet (Unicode, table 3-7).
use Rattle.std.proofs.Common.{◌≡◌, ◌⊎◌, ℕ, ◌+◌, ◌-◌, ◌*◌, ◌/◌, ◌%◌, ◌<◌, ◌≤◌, Bool, true, false, List, [], ◌∷◌, ◌++◌, None, length, refl, sym, ap, ◌∙◌, ⊎_elim, inl, inr, arith, le-ltb}
use Rattle.std.proofs.lemmas.Bool.{cases_lt}
use Rattle.std.proofs.lemmas.Bool.Decides.{nat_tests}
use Rattle.std.proofs.str.Laws.{Follows, one, two, three, four}
use Rattle.std.proofs.str.Faults.{Ranged, no_char}
use Rattle.std.proofs.str.Lossy.{utf8_error_len_some}
use Rattle.std.specs.Char.{IsScalar, encode_utf8}
use Rattle.std.specs.Int.{is_in_range}
use Rattle.std.specs.Str.{StartsWithNoChar}
use Rattle.std.specs.Str.Lossy.{second_byte_max, second_byte_min, utf8_error_len}
use Rattle.utf8_bytes.specs.Split.{IsSubpart, IsTail}

-- ---- the characters of two, three and four bytes

-- the bytes are the bytes of a character
pub record AreChar (bytes : List ℕ) : Type 0 where
  char : ℕ
  scalar : IsScalar char
  spelled : encode_utf8 char ≡ bytes

-- the bytes are the bytes of a known character
pub record Spells (char : ℕ) (bytes : List ℕ) : Type 0 where
  pub scalar : IsScalar char
  pub spelled : encode_utf8 char ≡ bytes

are_char : (char : ℕ) (bytes : List ℕ) → Spells char bytes → AreChar bytes
are_char char bytes is = record { char = char; scalar = is.scalar; spelled = is.spelled }

-- a second byte that may follow the first (Unicode, table 3-7)
abbrev pub IsSecond : ℕ → ℕ → Type 0
IsSecond x y = is_in_range (second_byte_min x) (second_byte_max x) y ≡ true

is_false : (b : Bool) → ¬ (b ≡ true) → b ≡ false
is_false true not_true = absurd (not_true refl)
is_false false not_true = refl

scalar_from : (c : ℕ) → (c < 0xD800) ⊎ ((0xE000 ≤ c) × (c < 0x11_0000)) → IsScalar c
scalar_from c within = grind (arith, nat_tests)

pub one_spelled : (x : ℕ) → x < 0x80 → Spells x (x ∷ [])
one_spelled x low = record { scalar = scalar_from x (inl (omega arith)); spelled = one x low }

pub one_byte : (x : ℕ) → x < 0x80 → AreChar (x ∷ [])
one_byte x low = are_char x (x ∷ []) (one_spelled x low)

pub two_spelled : (x y : ℕ) → 0xC2 ≤ x → x < 0xE0 → Follows y → Spells ((x - 192) * 64 + (y - 128)) (x ∷ y ∷ [])
two_spelled x y from to f =
    let c = (x - 192) * 64 + (y - 128) in
    let first : 192 + c / 64 ≡ x = omega arith in
    let second : 128 + c % 64 ≡ y = omega arith in
    record { scalar = scalar_from c (inl (omega arith)); spelled = two c (omega arith) (omega arith) ∙ (λ i. first i ∷ second i ∷ []) }

pub two_bytes : (x y : ℕ) → 0xC2 ≤ x → x < 0xE0 → Follows y → AreChar (x ∷ y ∷ [])
two_bytes x y from to f = are_char _ (x ∷ y ∷ []) (two_spelled x y from to f)

pub second_follows : (x y : ℕ) → IsSecond x y → Follows y
second_follows x y second = (grind (arith, nat_tests), grind (arith, nat_tests))

second_three : (x y : ℕ) → 0xE0 ≤ x → x < 0xF0 → IsSecond x y → let high : ℕ = (x - 224) * 64 + (y - 128) in (32 ≤ high) × ((high < 864) ⊎ (896 ≤ high))
second_three x y from to second =
    let f = second_follows x y second in
    let least : 32 ≤ (x - 224) * 64 + (y - 128) = grind (arith, nat_tests) in (
      least,
      ⊎_elim
          (λ (low : x < 0xED). inl (omega arith))
          (λ (high : 0xED ≤ x). ⊎_elim (λ (ed : x < 0xEE). inl (grind (arith, nat_tests))) (λ (past : 0xEE ≤ x). inr (omega arith)) (cases_lt x 0xEE))
          (cases_lt x 0xED),
    )

second_four : (x y : ℕ) → 0xF0 ≤ x → x ≤ 0xF4 → IsSecond x y → let high : ℕ = (x - 240) * 64 + (y - 128) in (16 ≤ high) × (high < 272)
second_four x y from to second =
    let f = second_follows x y second in
    (grind (arith, nat_tests), grind (arith, nat_tests))

pub three_spelled : (x y z : ℕ) → 0xE0 ≤ x → x < 0xF0 → IsSecond x y → Follows z
    → Spells ((x - 224) * 4096 + (y - 128) * 64 + (z - 128)) (x ∷ y ∷ z ∷ [])
three_spelled x y z from to second f =
    let s = second_follows x y second in
    let high = second_three x y from to second in
    let c = (x - 224) * 4096 + (y - 128) * 64 + (z - 128) in
    let least = high.0 in
    let scalar : (c < 0xD800) ⊎ ((0xE000 ≤ c) × (c < 0x11_0000)) = ⊎_elim
    (λ (low : (x - 224) * 64 + (y - 128) < 864). inl (omega arith))
    (λ (above : 896 ≤ (x - 224) * 64 + (y - 128)). inr (omega arith, omega arith))
    high.1 in
    let one : 224 + c / 4096 ≡ x = omega arith in
    let two : 128 + c / 64 % 64 ≡ y = omega arith in
    let last : 128 + c % 64 ≡ z = omega arith in
    record { scalar = scalar_from c scalar; spelled = three c (omega arith) (omega arith) ∙ (λ i. one i ∷ two i ∷ last i ∷ []) }

pub three_bytes : (x y z : ℕ) → 0xE0 ≤ x → x < 0xF0 → IsSecond x y → Follows z → AreChar (x ∷ y ∷ z ∷ [])
three_bytes x y z from to second f = are_char _ (x ∷ y ∷ z ∷ []) (three_spelled x y z from to second f)

pub four_spelled : (x y z w : ℕ) → 0xF0 ≤ x → x ≤ 0xF4 → IsSecond x y → Follows z → Follows w
    → Spells ((x - 240) * 262144 + (y - 128) * 4096 + (z - 128) * 64 + (w - 128)) (x ∷ y ∷ z ∷ w ∷ [])
four_spelled x y z w from to second f g =
    let s = second_follows x y second in
    let high = second_four x y from to second in
    let least = high.0 in
    let most = high.1 in
    let c = (x - 240) * 262144 + (y - 128) * 4096 + (z - 128) * 64 + (w - 128) in
    let sixth : c / 64 ≡ (x - 240) * 4096 + (y - 128) * 64 + (z - 128) = omega arith in
    let one : 240 + c / 262144 ≡ x = omega arith in
    let two : 128 + c / 4096 % 64 ≡ y = omega arith in
    let three : 128 + c / 64 % 64 ≡ z = omega arith in
    let last : 128 + c % 64 ≡ w = omega arith in
    record { scalar = scalar_from c (inr (omega arith, omega arith)); spelled = four c (omega arith) ∙ (λ i. one i ∷ two i ∷ three i ∷ last i ∷ []) }

pub four_bytes : (x y z w : ℕ) → 0xF0 ≤ x → x ≤ 0xF4 → IsSecond x y → Follows z → Follows w → AreChar (x ∷ y ∷ z ∷ w ∷ [])
four_bytes x y z w from to second f g = are_char _ (x ∷ y ∷ z ∷ w ∷ []) (four_spelled x y z w from to second f g)

-- ---- what begins such a character

tail_of : (front back : List ℕ) → (back ≡ [] → ⊥) → AreChar (front ++ back) → IsTail front
tail_of front back some whole = record { char = whole.char; more = back; scalar = whole.scalar; some = some; spelled = sym whole.spelled }

follows_80 : Follows 0x80
follows_80 = (omega arith, omega arith)

-- a second byte that may follow the first
some_second : (x : ℕ) → (y : ℕ) × IsSecond x y
some_second x = (second_byte_min x, grind (arith, nat_tests))

pub tail_nil : IsTail []
tail_nil = tail_of [] (0x41 ∷ []) (λ e. cc) (one_byte 0x41 (omega arith))

pub tail_two : (x : ℕ) → 0xC2 ≤ x → x < 0xE0 → IsTail (x ∷ [])
tail_two x from to = tail_of (x ∷ []) (0x80 ∷ []) (λ e. cc) (two_bytes x 0x80 from to follows_80)

pub tail_three : (x y : ℕ) → 0xE0 ≤ x → x < 0xF0 → IsSecond x y → IsTail (x ∷ y ∷ [])
tail_three x y from to second = tail_of (x ∷ y ∷ []) (0x80 ∷ []) (λ e. cc) (three_bytes x y 0x80 from to second follows_80)

pub tail_four : (x y z : ℕ) → 0xF0 ≤ x → x ≤ 0xF4 → IsSecond x y → Follows z → IsTail (x ∷ y ∷ z ∷ [])
tail_four x y z from to second f = tail_of (x ∷ y ∷ z ∷ []) (0x80 ∷ []) (λ e. cc) (four_bytes x y z 0x80 from to second f follows_80)

pub tail_four_two : (x y : ℕ) → 0xF0 ≤ x → x ≤ 0xF4 → IsSecond x y → IsTail (x ∷ y ∷ [])
tail_four_two x y from to second = tail_of (x ∷ y ∷ []) (0x80 ∷ 0x80 ∷ []) (λ e. cc) (four_bytes x y 0x80 0x80 from to second follows_80 follows_80)

pub tail_three_one : (x : ℕ) → 0xE0 ≤ x → x < 0xF0 → IsTail (x ∷ [])
tail_three_one x from to =
    let y = some_second x in
    tail_of (x ∷ []) (y.0 ∷ 0x80 ∷ []) (λ e. cc) (three_bytes x y.0 0x80 from to y.1 follows_80)

pub tail_four_one : (x : ℕ) → 0xF0 ≤ x → x ≤ 0xF4 → IsTail (x ∷ [])
tail_four_one x from to =
    let y = some_second x in
    tail_of (x ∷ []) (y.0 ∷ 0x80 ∷ 0x80 ∷ []) (λ e. cc) (four_bytes x y.0 0x80 0x80 from to y.1 follows_80 follows_80)

-- ---- ill-formed subparts

pub bad_first : (x : ℕ) (rest : List ℕ) → 0x80 ≤ x → (x < 0xC2) ⊎ (0xF4 < x) → IsSubpart (x ∷ []) rest
bad_first x rest from bad = record {
  no_char = no_char (x ∷ rest) 0 (λ r.
      let s = r.second from in
      let least = s.0 in
      let f = s.2 in
      ⊎_elim (λ (low : x < 0xC2). omega arith)
      (λ (high : 0xF4 < x).
      let four = r.fourth (omega arith) in
      let top = four.2.1 in
      omega arith)
      bad);
  len =
      let range : is_in_range 0xC2 0xF4 x ≡ false = grind (arith, nat_tests) in
      utf8_error_len_some (x ∷ rest) (omega arith) ∙ rw range refl;
}

-- a second byte that std's ranges allow
second_from : (x y n z w : ℕ) → 0xC2 ≤ x → Ranged n x y z w → IsSecond x y
second_from x y n z w from r =
    let f = (r.second (omega arith)).2 in
    let above = f.0 in
    let below = f.1 in
    ⊎_elim
    (λ (two : x < 0xE0). grind (arith, nat_tests))
    (λ (more : 0xE0 ≤ x). ⊎_elim
    (λ (three : x < 0xF0).
    let high = r.in_three more three in
    let least = high.0 in
    ⊎_elim
    (λ (low : (x - 224) * 64 + (y - 128) < 864). grind (arith, nat_tests))
    (λ (past : 896 ≤ (x - 224) * 64 + (y - 128)). grind (arith, nat_tests))
    high.1)
    (λ (four : 0xF0 ≤ x).
    let high = (r.fourth four).2 in
    let least = high.0 in
    let most = high.1 in
    grind (arith, nat_tests))
    (cases_lt x 0xF0))
    (cases_lt x 0xE0)

pub bad_second : (x y : ℕ) (rest : List ℕ) → 0xC2 ≤ x → x ≤ 0xF4 → ¬ (IsSecond x y) → IsSubpart (x ∷ []) (y ∷ rest)
bad_second x y rest from to bad = record {
  no_char = no_char (x ∷ y ∷ rest) 0 (λ r. bad (second_from x y _ _ _ from r));
  len =
      let range : is_in_range 0xC2 0xF4 x ≡ true = grind (arith, nat_tests) in
      let second : is_in_range (second_byte_min x) (second_byte_max x) y ≡ false = is_false _ bad in
      utf8_error_len_some (x ∷ y ∷ rest) (omega arith) ∙ rw (range, le-ltb (length (x ∷ y ∷ rest)) 2 (omega arith), second) refl;
}

pub bad_third : (x y z : ℕ) (rest : List ℕ) → 0xE0 ≤ x → x ≤ 0xF4 → IsSecond x y → ¬ (Follows z) → IsSubpart (x ∷ y ∷ []) (z ∷ rest)
bad_third x y z rest from to second bad = record {
  no_char = no_char (x ∷ y ∷ z ∷ rest) 0 (λ r. bad (r.third from).1);
  len =
      let range : is_in_range 0xC2 0xF4 x ≡ true = grind (arith, nat_tests) in
      let third : is_in_range 0x80 0xBF z ≡ false = is_false _ (λ e. bad (grind (arith, nat_tests), grind (arith, nat_tests))) in
      let bytes = x ∷ y ∷ z ∷ rest in
      utf8_error_len_some bytes (omega arith) ∙ rw (range, le-ltb (length bytes) 2 (omega arith), second, le-ltb (length bytes) 3 (omega arith), third) refl;
}

pub bad_fourth : (x y z w : ℕ) (rest : List ℕ) → 0xF0 ≤ x → x ≤ 0xF4 → IsSecond x y → Follows z → ¬ (Follows w) → IsSubpart (x ∷ y ∷ z ∷ []) (w ∷ rest)
bad_fourth x y z w rest from to second f bad = record {
  no_char = no_char (x ∷ y ∷ z ∷ w ∷ rest) 0 (λ r. bad (r.fourth from).1);
  len =
      let range : is_in_range 0xC2 0xF4 x ≡ true = grind (arith, nat_tests) in
      let above = f.0 in
      let below = f.1 in
      let third : is_in_range 0x80 0xBF z ≡ true = grind (arith, nat_tests) in
      let bytes = x ∷ y ∷ z ∷ w ∷ rest in
      utf8_error_len_some bytes (omega arith)
      ∙ rw (range, le-ltb (length bytes) 2 (omega arith), second, le-ltb (length bytes) 3 (omega arith), third, le-ltb (length bytes) 4 (omega arith)) refl;
}

-- ---- what bytes begin with

-- an ill-formed subpart that at most one byte after it decides: it begins a character, or is one
-- byte
pub record Part (part seen : List ℕ) : Type 0 where
  pub some : 0 < length part
  pub few : length part ≤ 3
  pub soon : length seen ≤ 1
  pub begins : IsTail part ⊎ (length part ≡ 1)
  pub then : (more : List ℕ) → IsSubpart part (seen ++ more)

-- a character; an ill-formed subpart, whatever bytes follow; or bytes that more bytes can make a
-- character
pub data Begins (bytes : List ℕ) : Type 0 where
  char : (c : ℕ) (rest : List ℕ) → IsScalar c → encode_utf8 c ++ rest ≡ bytes → Begins bytes
  subpart : (part seen rest : List ℕ) → part ++ (seen ++ rest) ≡ bytes → Part part seen → Begins bytes
  tail : IsTail bytes → StartsWithNoChar bytes → utf8_error_len bytes ≡ None → Begins bytes

pub char_first : (front rest : List ℕ) → AreChar front → Begins (front ++ rest)
char_first front rest are = char are.char rest are.scalar (ap (λ b. b ++ rest) are.spelled)

module _ (x : ℕ) (from : 0xC2 ≤ x) (to : x ≤ 0xF4) where
  pub first : is_in_range 0xC2 0xF4 x ≡ true
  first = grind (arith, nat_tests)

  pub begins_one : IsTail (x ∷ []) → Begins (x ∷ [])
  begins_one is = tail is
      (no_char (x ∷ []) 0 (λ r. let long = (r.second (omega arith)).1 in omega arith))
      (utf8_error_len_some (x ∷ []) (omega arith) ∙ rw first refl)

  module _ (y : ℕ) (second : IsSecond x y) (long : 0xE0 ≤ x) where
    pub begins_two : IsTail (x ∷ y ∷ []) → Begins (x ∷ y ∷ [])
    begins_two is = tail is
        (no_char (x ∷ y ∷ []) 0 (λ r. let long = (r.third long).0 in omega arith))
        (utf8_error_len_some (x ∷ y ∷ []) (omega arith) ∙ rw (first, second) refl)

    pub begins_three : (z : ℕ) → Follows z → 0xF0 ≤ x → IsTail (x ∷ y ∷ z ∷ []) → Begins (x ∷ y ∷ z ∷ [])
    begins_three z f longer is =
        let above = f.0 in
        let below = f.1 in
        let third : is_in_range 0x80 0xBF z ≡ true = grind (arith, nat_tests) in
        tail is
        (no_char (x ∷ y ∷ z ∷ []) 0 (λ r. let long = (r.fourth longer).0 in omega arith))
        (utf8_error_len_some (x ∷ y ∷ z ∷ []) (omega arith) ∙ rw (first, second, third) refl)
