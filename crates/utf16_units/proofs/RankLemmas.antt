-- The ordering of texts by the ranks of their units.
use Rattle.std.proofs.Common.{◌≡◌, ℕ, ◌+◌, ◌-◌, ◌/◌, ◌%◌, ◌<◌, ◌≤◌, ◌⊎◌, Bool, List, [], ◌∷◌, ◌++◌, All, Ordering, Less, Equal, Greater, nat_cmp, refl, sym, ap, ap₂, ◌∙◌, subst₂, ⊎_elim, inl, inr, arith, flat_map}
use Rattle.std.proofs.lemmas.Bool.{cases_lt}
use Rattle.std.proofs.lemmas.Bool.Decides.{nat_tests}
use Rattle.std.proofs.lemmas.List.Elements.{All-head, All-tail}
use Rattle.std.proofs.str.Utf16.{one_unit, two_units}
use Rattle.std.specs.Char.{IsScalar}
use Rattle.std.specs.Char.Escape.{encode_utf16}
use Rattle.std.specs.Cmp.{nat_cmp_is, ranks}
use Rattle.std.specs.Cmp.Lexicographic.{slice_cmp}
use Rattle.std.specs.Ordering.{MatchOrdering, ordering_then}
use Rattle.utf16_units.specs.Compared.{ranked_cmp, unit_rank, units_cmp}
use Rattle.utf16_units.specs.Encoding.{IsUtf16, text_of}
use Rattle.utf16_units.proofs.CharLemmas.{no_surrogate}
use Rattle.utf16_units.proofs.EncodingLemmas.{scalars-text_of}
use Rattle.utf16_units.proofs.UnitsUpTo.{units_of-text}

-- two pairs of numbers with the same ordering
same_cmp : (a b x y : ℕ) → (a < b → x < y) → (a ≡ b → x ≡ y) → (b < a → y < x) → nat_cmp x y ≡ nat_cmp a b
same_cmp a b x y less equal greater = sym (nat_cmp_is x y (nat_cmp a b) (moved (nat_cmp a b) (ranks a b))) where
  moved : (o : Ordering) → MatchOrdering o (a < b) (a ≡ b) (b < a) → MatchOrdering o (x < y) (x ≡ y) (y < x)
  moved Less h = less h
  moved Equal h = equal h
  moved Greater h = greater h

-- ---- the ranks: units that are not surrogates in their order, and above them the surrogates

low_rank : (unit : ℕ) → unit < 0xD800 → unit_rank unit ≡ unit
low_rank unit low = grind (arith, nat_tests)

surrogate_rank : (unit : ℕ) → 0xD800 ≤ unit → unit < 0xE000 → unit_rank unit ≡ unit + 0x2000
surrogate_rank unit above below = grind (arith, nat_tests)

high_rank : (unit : ℕ) → 0xE000 ≤ unit → unit_rank unit ≡ unit - 0x800
high_rank unit high = grind (arith, nat_tests)

-- ---- one character

abbrev lead : ℕ → ℕ
lead c = 0xD800 + (c - 0x1_0000) / 0x400

abbrev trail : ℕ → ℕ
trail c = 0xDC00 + (c - 0x1_0000) % 0x400

-- a character of one unit and its rank, and the rank of a leading surrogate
plain_rank : (c : ℕ) → IsScalar c → c < 0x1_0000 → ((c < 0xD800) × (unit_rank c ≡ c)) ⊎ ((0xE000 ≤ c) × (unit_rank c ≡ c - 0x800))
plain_rank c scalar one = ⊎_elim
    (λ (low : c < 0xD800). inl (low, low_rank c low))
    (λ (high : (0xE000 ≤ c) × (c < 0x11_0000)). inr (high.0, high_rank c high.0))
    (no_surrogate c scalar)

scalar_below : (c : ℕ) → IsScalar c → c < 0x11_0000
scalar_below c scalar = ⊎_elim (λ (low : c < 0xD800). omega arith) (λ (high : (0xE000 ≤ c) × (c < 0x11_0000)). high.1) (no_surrogate c scalar)

lead_rank : (c : ℕ) → IsScalar c → 0x1_0000 ≤ c → unit_rank (lead c) ≡ 0xF800 + (c - 0x1_0000) / 0x400
lead_rank c scalar two = let below = scalar_below c scalar in surrogate_rank (lead c) (omega arith) (omega arith) ∙ omega arith

trail_rank : (c : ℕ) → 0x1_0000 ≤ c → unit_rank (trail c) ≡ 0xFC00 + (c - 0x1_0000) % 0x400
trail_rank c two = surrogate_rank (trail c) (omega arith) (omega arith) ∙ omega arith

plain_below : (c d : ℕ) → IsScalar c → IsScalar d → c < 0x1_0000 → d < 0x1_0000 → c < d → unit_rank c < unit_rank d
plain_below c d scalar other one two less = ⊎_elim
    (λ (p : (c < 0xD800) × (unit_rank c ≡ c)).
    ⊎_elim (λ (q : (d < 0xD800) × (unit_rank d ≡ d)). omega arith) (λ (q : (0xE000 ≤ d) × (unit_rank d ≡ d - 0x800)). omega arith) (plain_rank d other two))
    (λ (p : (0xE000 ≤ c) × (unit_rank c ≡ c - 0x800)).
    ⊎_elim (λ (q : (d < 0xD800) × (unit_rank d ≡ d)). omega arith) (λ (q : (0xE000 ≤ d) × (unit_rank d ≡ d - 0x800)). omega arith) (plain_rank d other two))
    (plain_rank c scalar one)

plain_under : (c : ℕ) → IsScalar c → c < 0x1_0000 → unit_rank c < 0xF800
plain_under c scalar one = ⊎_elim (λ (p : (c < 0xD800) × (unit_rank c ≡ c)). omega arith) (λ (p : (0xE000 ≤ c) × (unit_rank c ≡ c - 0x800)). omega arith) (plain_rank c scalar one)

-- the first units of two characters decide as the characters do, or the second ones do
module _ (c d : ℕ) (scalar : IsScalar c) (other : IsScalar d) (us vs : List ℕ) where
  abbrev Decides_as : List ℕ → List ℕ → Type 0
  Decides_as cs ds = ranked_cmp (cs ++ us) (ds ++ vs) ≡ ordering_then (nat_cmp c d) (ranked_cmp us vs)

  decided : (o : Ordering) (rest : Ordering) → o ≡ nat_cmp c d → ordering_then o rest ≡ ordering_then (nat_cmp c d) rest
  decided o rest same = ap (λ p. ordering_then p rest) same

  one_one : c < 0x1_0000 → d < 0x1_0000 → Decides_as (c ∷ []) (d ∷ [])
  one_one one two =
      decided (nat_cmp (unit_rank c) (unit_rank d)) (ranked_cmp us vs)
      (same_cmp c d (unit_rank c) (unit_rank d) (plain_below c d scalar other one two) (ap unit_rank) (plain_below d c other scalar two one))

  one_two : c < 0x1_0000 → 0x1_0000 ≤ d → Decides_as (c ∷ []) (lead d ∷ trail d ∷ [])
  one_two one two =
      let under = plain_under c scalar one in
      let above = lead_rank d other two in
      ap (λ o. ordering_then o (ranked_cmp us (trail d ∷ vs))) (sym (nat_cmp_is (unit_rank c) (unit_rank (lead d)) Less (omega arith)))
      ∙ ap (λ o. ordering_then o (ranked_cmp us vs)) (nat_cmp_is c d Less (omega arith))

  two_one : 0x1_0000 ≤ c → d < 0x1_0000 → Decides_as (lead c ∷ trail c ∷ []) (d ∷ [])
  two_one two one =
      let under = plain_under d other one in
      let above = lead_rank c scalar two in
      ap (λ o. ordering_then o (ranked_cmp (trail c ∷ us) vs)) (sym (nat_cmp_is (unit_rank (lead c)) (unit_rank d) Greater (omega arith)))
      ∙ ap (λ o. ordering_then o (ranked_cmp us vs)) (nat_cmp_is c d Greater (omega arith))

  then_assoc : (o p q : Ordering) → ordering_then o (ordering_then p q) ≡ ordering_then (ordering_then o p) q
  then_assoc Less p q = refl
  then_assoc Equal p q = refl
  then_assoc Greater p q = refl

  module _ (two : 0x1_0000 ≤ c) (four : 0x1_0000 ≤ d) where
    pair_ranks : (o p : Ordering) → MatchOrdering o (unit_rank (lead c) < unit_rank (lead d)) (unit_rank (lead c) ≡ unit_rank (lead d)) (unit_rank (lead d) < unit_rank (lead c))
        → MatchOrdering p (unit_rank (trail c) < unit_rank (trail d)) (unit_rank (trail c) ≡ unit_rank (trail d)) (unit_rank (trail d) < unit_rank (trail c))
        → MatchOrdering (ordering_then o p) (c < d) (c ≡ d) (d < c)
    pair_ranks Less p l t = omega (arith, l, lead_rank c scalar two, lead_rank d other four)
    pair_ranks Greater p l t = omega (arith, l, lead_rank c scalar two, lead_rank d other four)
    pair_ranks Equal Less l t = omega (arith, l, t, lead_rank c scalar two, lead_rank d other four, trail_rank c two, trail_rank d four)
    pair_ranks Equal Equal l t = omega (arith, l, t, lead_rank c scalar two, lead_rank d other four, trail_rank c two, trail_rank d four)
    pair_ranks Equal Greater l t = omega (arith, l, t, lead_rank c scalar two, lead_rank d other four, trail_rank c two, trail_rank d four)

    two_two : Decides_as (lead c ∷ trail c ∷ []) (lead d ∷ trail d ∷ [])
    two_two =
        let first = nat_cmp (unit_rank (lead c)) (unit_rank (lead d)) in
        let second = nat_cmp (unit_rank (trail c)) (unit_rank (trail d)) in
        then_assoc first second (ranked_cmp us vs)
        ∙ decided (ordering_then first second) (ranked_cmp us vs)
        (nat_cmp_is c d (ordering_then first second) (pair_ranks first second (ranks (unit_rank (lead c)) (unit_rank (lead d))) (ranks (unit_rank (trail c)) (unit_rank (trail d)))))

  ranked_char : Decides_as (encode_utf16 c) (encode_utf16 d)
  ranked_char = ⊎_elim
      (λ (one : c < 0x1_0000). ⊎_elim
      (λ (two : d < 0x1_0000). subst₂ Decides_as (sym (one_unit c one)) (sym (one_unit d two)) (one_one one two))
      (λ (two : 0x1_0000 ≤ d). subst₂ Decides_as (sym (one_unit c one)) (sym (two_units d two)) (one_two one two))
      (cases_lt d 0x1_0000))
      (λ (one : 0x1_0000 ≤ c). ⊎_elim
      (λ (two : d < 0x1_0000). subst₂ Decides_as (sym (two_units c one)) (sym (one_unit d two)) (two_one one two))
      (λ (two : 0x1_0000 ≤ d). subst₂ Decides_as (sym (two_units c one)) (sym (two_units d two)) (two_two one two))
      (cases_lt d 0x1_0000))
      (cases_lt c 0x1_0000)

-- ---- whole texts

char_units : (c : ℕ) (us : List ℕ) → (first : ℕ) × (rest : List ℕ) × (encode_utf16 c ++ us ≡ first ∷ rest)
char_units c us = ⊎_elim
    (λ (one : c < 0x1_0000). (c, us, ap (λ cs. cs ++ us) (one_unit c one)))
    (λ (two : 0x1_0000 ≤ c). (lead c, trail c ∷ us, ap (λ cs. cs ++ us) (two_units c two)))
    (cases_lt c 0x1_0000)

ranked_text : (text other : List ℕ) → All IsScalar text → All IsScalar other
    → ranked_cmp (flat_map encode_utf16 text) (flat_map encode_utf16 other) ≡ slice_cmp nat_cmp text other
ranked_text [] [] scalars others = refl
ranked_text [] (d ∷ other) scalars others = ap (ranked_cmp []) (char_units d (flat_map encode_utf16 other)).2
ranked_text (c ∷ text) [] scalars others = ap (λ us. ranked_cmp us []) (char_units c (flat_map encode_utf16 text)).2
ranked_text (c ∷ text) (d ∷ other) scalars others =
    ranked_char c d (All-head IsScalar c text scalars) (All-head IsScalar d other others) (flat_map encode_utf16 text) (flat_map encode_utf16 other)
    ∙ ap (ordering_then (nat_cmp c d)) (ranked_text text other (All-tail IsScalar c text scalars) (All-tail IsScalar d other others))

-- the units of well-formed bytes compare as their texts do
pub ranked_bytes : (big : Bool) (bytes other : List ℕ) → IsUtf16 big bytes → IsUtf16 big other
    → units_cmp big bytes other ≡ slice_cmp nat_cmp (text_of big bytes) (text_of big other)
ranked_bytes big bytes other t o =
    ap₂ ranked_cmp (units_of-text big bytes t) (units_of-text big other o)
    ∙ ranked_text (text_of big bytes) (text_of big other) (scalars-text_of big bytes t) (scalars-text_of big other o)
