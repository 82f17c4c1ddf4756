-- Any bytes begin with a character, begin with an ill-formed subpart, or are the beginning of a
-- character, and exactly one of these holds.
use Rattle.std.proofs.Common.{◌≡◌, ◌⊎◌, ℕ, ◌<◌, ◌≤◌, false, List, [], ◌∷◌, ◌++◌, length, refl, sym, ap, ◌∙◌, ⊎_elim, inl, inr, arith, length-append, true≢false}
use Rattle.std.proofs.lemmas.Bool.{cases_Bool, cases_lt}
use Rattle.std.proofs.lemmas.Str.{len_utf8_bounds, length-encode}
use Rattle.std.proofs.str.Laws.{Follows}
use Rattle.std.proofs.str.Lossy.{utf8_error_len-nil}
use Rattle.std.specs.Char.{encode_utf8}
use Rattle.std.specs.Int.{is_in_range}
use Rattle.std.specs.Str.{StartsWithNoChar}
use Rattle.std.specs.Str.Lossy.{second_byte_max, second_byte_min}
use Rattle.utf8_bytes.specs.Split.{IsSubpart, IsTail}
use Rattle.utf8_bytes.proofs.TableLemmas.{Begins, IsSecond, Part, bad_first, bad_fourth, bad_second, bad_third, begins_one, begins_three, begins_two, char_first, four_bytes, one_byte, second_follows, subpart, tail, tail_four, tail_four_one, tail_four_two, tail_nil, tail_three, tail_three_one, tail_two, three_bytes, two_bytes}

-- bytes of no length
pub no_bytes : (bytes : List ℕ) → length bytes ≡ 0 → bytes ≡ []
no_bytes [] none = refl
no_bytes (b ∷ bytes) none = absurd (omega arith)

pub some_bytes : (c : ℕ) → 0 < length (encode_utf8 c)
some_bytes c = omega (arith, length-encode c, (len_utf8_bounds c).0)

no_char_nil : StartsWithNoChar []
no_char_nil c rest scalar e = let some = some_bytes c in omega (arith, ap length e, length-append (encode_utf8 c) rest)

-- a byte that may follow others, or not
cases_follows : (z : ℕ) → Follows z ⊎ (¬ (Follows z))
cases_follows z = ⊎_elim
    (λ (low : z < 128). inr (λ f. let above = f.0 in omega arith))
    (λ (above : 128 ≤ z). ⊎_elim (λ (below : z < 192). inl (above, below)) (λ (high : 192 ≤ z). inr (λ f. let below = f.1 in omega arith)) (cases_lt z 192))
    (cases_lt z 128)

cases_second : (x y : ℕ) → IsSecond x y ⊎ (¬ (IsSecond x y))
cases_second x y = ⊎_elim inl (λ (e : is_in_range (second_byte_min x) (second_byte_max x) y ≡ false). inr (λ second. true≢false (sym second ∙ e)))
    (cases_Bool (is_in_range (second_byte_min x) (second_byte_max x) y))

part_of : (part seen : List ℕ) → 0 < length part → length part ≤ 3 → length seen ≤ 1 → IsTail part ⊎ (length part ≡ 1)
    → ((more : List ℕ) → IsSubpart part (seen ++ more)) → Part part seen
part_of part seen some few soon begins then = record { some = some; few = few; soon = soon; begins = begins; then = then }

module _ (x : ℕ) (from : 0xC2 ≤ x) (to : x ≤ 0xF4) where
  after_three : (y z : ℕ) (rest : List ℕ) → 0xF0 ≤ x → IsSecond x y → Follows z → Begins (x ∷ y ∷ z ∷ rest)
  after_three y z [] long second f = begins_three x from to y second (omega arith) z f long (tail_four x y z long to second f)
  after_three y z (w ∷ rest) long second f = ⊎_elim
      (λ (g : Follows w). char_first (x ∷ y ∷ z ∷ w ∷ []) rest (four_bytes x y z w long to second f g))
      (λ (bad : ¬ (Follows w)). subpart (x ∷ y ∷ z ∷ []) (w ∷ []) rest refl
      (part_of (x ∷ y ∷ z ∷ []) (w ∷ []) (omega arith) (omega arith) (omega arith) (inl (tail_four x y z long to second f)) (λ more. bad_fourth x y z w more long to second f bad)))
      (cases_follows w)

  tail_of_two : (y : ℕ) → 0xE0 ≤ x → IsSecond x y → IsTail (x ∷ y ∷ [])
  tail_of_two y long second = ⊎_elim
      (λ (three : x < 0xF0). tail_three x y long three second)
      (λ (four : 0xF0 ≤ x). tail_four_two x y four to second)
      (cases_lt x 0xF0)

  after_two : (y : ℕ) (rest : List ℕ) → 0xE0 ≤ x → IsSecond x y → Begins (x ∷ y ∷ rest)
  after_two y [] long second = begins_two x from to y second long (tail_of_two y long second)
  after_two y (z ∷ rest) long second = ⊎_elim
      (λ (f : Follows z). ⊎_elim
      (λ (three : x < 0xF0). char_first (x ∷ y ∷ z ∷ []) rest (three_bytes x y z long three second f))
      (λ (four : 0xF0 ≤ x). after_three y z rest four second f)
      (cases_lt x 0xF0))
      (λ (bad : ¬ (Follows z)). subpart (x ∷ y ∷ []) (z ∷ []) rest refl
      (part_of (x ∷ y ∷ []) (z ∷ []) (omega arith) (omega arith) (omega arith) (inl (tail_of_two y long second)) (λ more. bad_third x y z more long to second bad)))
      (cases_follows z)

  tail_one : IsTail (x ∷ [])
  tail_one = ⊎_elim
      (λ (two : x < 0xE0). tail_two x from two)
      (λ (long : 0xE0 ≤ x). ⊎_elim
      (λ (three : x < 0xF0). tail_three_one x long three)
      (λ (four : 0xF0 ≤ x). tail_four_one x four to)
      (cases_lt x 0xF0))
      (cases_lt x 0xE0)

  after_one : (rest : List ℕ) → Begins (x ∷ rest)
  after_one [] = begins_one x from to tail_one
  after_one (y ∷ rest) = ⊎_elim
      (λ (second : IsSecond x y). ⊎_elim
      (λ (two : x < 0xE0). char_first (x ∷ y ∷ []) rest (two_bytes x y from two (second_follows x y second)))
      (λ (long : 0xE0 ≤ x). after_two y rest long second)
      (cases_lt x 0xE0))
      (λ (bad : ¬ (IsSecond x y)). subpart (x ∷ []) (y ∷ []) rest refl
      (part_of (x ∷ []) (y ∷ []) (omega arith) (omega arith) (omega arith) (inr refl) (λ more. bad_second x y more from to bad)))
      (cases_second x y)

begins_bad : (x : ℕ) (rest : List ℕ) → 0x80 ≤ x → (x < 0xC2) ⊎ (0xF4 < x) → Begins (x ∷ rest)
begins_bad x rest from bad = subpart (x ∷ []) [] rest refl
    (part_of (x ∷ []) [] (omega arith) (omega arith) (omega arith) (inr refl) (λ more. bad_first x more from bad))

pub begins : (bytes : List ℕ) → Begins bytes
begins [] = tail tail_nil no_char_nil utf8_error_len-nil
begins (x ∷ rest) = ⊎_elim
    (λ (ascii : x < 0x80). char_first (x ∷ []) rest (one_byte x ascii))
    (λ (above : 0x80 ≤ x). ⊎_elim
    (λ (low : x < 0xC2). begins_bad x rest above (inl low))
    (λ (from : 0xC2 ≤ x). ⊎_elim
    (λ (high : 0xF4 < x). begins_bad x rest above (inr high))
    (λ (to : x ≤ 0xF4). after_one x from to rest)
    (cases_lt 0xF4 x))
    (cases_lt x 0xC2))
    (cases_lt x 0x80)
