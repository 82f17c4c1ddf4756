-- Generalized UTF-8 is a prefix code: bytes begin with one code point at most.
use Rattle.std.proofs.lemmas.Bool.Decides.{nat_tests}
use Rattle.std.proofs.Common.{◌≡◌, ℕ, ◌+◌, ◌-◌, ◌*◌, ◌<◌, ◌≤◌, cond, List, [], ◌∷◌, ◌++◌, All, flat_map, length, slice_index, refl, sym, ap, ◌∙◌, arith, append_assoc, append-nil, length-append, le-ltb, lt-ltb}
use Rattle.std.specs.Prelude.{nat_lt}
use Rattle.std.proofs.lemmas.List.{append_cancel_left}
use Rattle.std.proofs.lemmas.List.Elements.{All-head, All-tail}
use Rattle.std.proofs.lemmas.Str.{len_utf8_bounds, length-encode}
use Rattle.utf16_units.proofs.Utf8Lemmas.{four_bytes, one_byte, three_bytes, two_bytes}
use Rattle.utf16_wtf8.specs.Wtf8.{IsCodePoint, generalized_utf8}

-- by how many bytes a code point has
pub by_size : {P : Type 0} → (c : ℕ) → (c < 0x80 → P) → (0x80 ≤ c → c < 0x800 → P) → (0x800 ≤ c → c < 0x1_0000 → P) → (0x1_0000 ≤ c → P) → P
by_size c one two three four = grind (arith, nat_tests)

-- the code point at the start of bytes
abbrev first_point : List ℕ → ℕ
first_point bytes =
    let lead = slice_index bytes 0 in
    cond (nat_lt lead 0x80) lead
    (cond (nat_lt lead 0xE0) ((lead - 192) * 64 + (slice_index bytes 1 - 128))
    (cond (nat_lt lead 0xF0) ((lead - 224) * 4096 + (slice_index bytes 1 - 128) * 64 + (slice_index bytes 2 - 128))
    ((lead - 240) * 262144 + (slice_index bytes 1 - 128) * 4096 + (slice_index bytes 2 - 128) * 64 + (slice_index bytes 3 - 128))))

point_of_one : (x : ℕ) (more : List ℕ) → x < 0x80 → first_point (x ∷ more) ≡ x
point_of_one x more short = rw (lt-ltb x 0x80 short) refl

point_of_two : (x y : ℕ) (more : List ℕ) → 0x80 ≤ x → x < 0xE0 → first_point (x ∷ y ∷ more) ≡ (x - 192) * 64 + (y - 128)
point_of_two x y more from below = rw (le-ltb x 0x80 from, lt-ltb x 0xE0 below) refl

point_of_three : (x y z : ℕ) (more : List ℕ) → 0xE0 ≤ x → x < 0xF0
    → first_point (x ∷ y ∷ z ∷ more) ≡ (x - 224) * 4096 + (y - 128) * 64 + (z - 128)
point_of_three x y z more from below = grind (arith, nat_tests, le-ltb, lt-ltb)

point_of_four : (x y z w : ℕ) (more : List ℕ) → 0xF0 ≤ x
    → first_point (x ∷ y ∷ z ∷ w ∷ more) ≡ (x - 240) * 262144 + (y - 128) * 4096 + (z - 128) * 64 + (w - 128)
point_of_four x y z w more from = grind (arith, nat_tests, le-ltb)

module _ (c : ℕ) (more : List ℕ) (below : IsCodePoint c) where
  of_one : c < 0x80 → first_point (generalized_utf8 c ++ more) ≡ c
  of_one short = ap (λ b. first_point (b ++ more)) (one_byte c short) ∙ point_of_one c more short

  of_two : 0x80 ≤ c → c < 0x800 → first_point (generalized_utf8 c ++ more) ≡ c
  of_two from short = grind (arith, nat_tests, two_bytes, point_of_two)

  of_three : 0x800 ≤ c → c < 0x1_0000 → first_point (generalized_utf8 c ++ more) ≡ c
  of_three from short = grind (arith, nat_tests, three_bytes, point_of_three)

  of_four : 0x1_0000 ≤ c → first_point (generalized_utf8 c ++ more) ≡ c
  of_four from = grind (arith, nat_tests, four_bytes, point_of_four)

  first_point-is : first_point (generalized_utf8 c ++ more) ≡ c
  first_point-is = by_size c of_one of_two of_three of_four

-- a code point has at least one byte
pub some_bytes : (c : ℕ) → 0 < length (generalized_utf8 c)
some_bytes c = omega (arith, length-encode c, len_utf8_bounds c)

-- bytes that begin with a code point begin with no other
pub point-unique : (c d : ℕ) (more others : List ℕ) → IsCodePoint c → IsCodePoint d → generalized_utf8 c ++ more ≡ generalized_utf8 d ++ others
    → (c ≡ d) × (more ≡ others)
point-unique c d more others c_below d_below e =
    let same : c ≡ d = sym (first_point-is c more c_below) ∙ ap first_point e ∙ first_point-is d others d_below in
    (same, append_cancel_left (generalized_utf8 c) more others (e ∙ ap (λ p. generalized_utf8 p ++ others) (sym same)))

-- the bytes of code points
abbrev pub spelled : List ℕ → List ℕ
spelled points = flat_map generalized_utf8 points

-- code points that follow others
pub record Follow (points all back : List ℕ) : Type 0 where
  pub rest : List ℕ
  pub is : all ≡ points ++ rest
  pub spells : spelled rest ≡ back

-- if the bytes of code points begin with the bytes of others, they begin with these others
pub points-follow : (points all back : List ℕ) → All IsCodePoint points → All IsCodePoint all → spelled all ≡ spelled points ++ back → Follow points all back
points-follow [] all back are every e = record { rest = all; is = refl; spells = e }
points-follow (p ∷ points) [] back are every e =
    let long = ap length e ∙ ap length (append_assoc (generalized_utf8 p) (spelled points) back) ∙ length-append (generalized_utf8 p) (spelled points ++ back) in
    let some = some_bytes p in
    absurd (omega arith)
points-follow (p ∷ points) (q ∷ all) back are every e =
    let first = point-unique q p (spelled all) (spelled points ++ back) (All-head IsCodePoint q all every) (All-head IsCodePoint p points are)
    (e ∙ append_assoc (generalized_utf8 p) (spelled points) back) in
    let next = points-follow points all back (All-tail IsCodePoint p points are) (All-tail IsCodePoint q all every) first.1 in
    record { rest = next.rest; is = ap (λ c. c ∷ all) first.0 ∙ ap (λ t. p ∷ t) next.is; spells = next.spells }

pub spelled-nil : (points : List ℕ) → spelled points ≡ [] → points ≡ []
spelled-nil [] none = refl
spelled-nil (p ∷ points) none =
    let long = ap length (sym none) ∙ length-append (generalized_utf8 p) (spelled points) in
    let some = some_bytes p in
    absurd (omega arith)

-- bytes are spelled by one list of code points at most
pub spelled-unique : (points others : List ℕ) → All IsCodePoint points → All IsCodePoint others → spelled points ≡ spelled others → points ≡ others
spelled-unique points others are every e =
    let next = points-follow others points [] every are (e ∙ sym (append-nil (spelled others))) in
    next.is ∙ ap (λ t. others ++ t) (spelled-nil next.rest next.spells) ∙ append-nil others
