-- The text of whole units, with U+FFFD for unpaired surrogates, is what std gives.
use Rattle.std.proofs.Common.{◌≡◌, ℕ, ◌%◌, ◌<◌, ◌≤◌, Bool, true, false, List, [], ◌∷◌, Some, get_or, length, map, refl, sym, ap, ap₂, ◌∙◌, ⊎_elim, arith}
use Rattle.std.proofs.lemmas.Bool.{cases_Bool, cases_lt}
use Rattle.std.proofs.lemmas.Str.{utf16_chars_lone, utf16_chars_pair}
use Rattle.std.proofs.str.Utf16.{IsPair, lone_unit_char_high, lone_unit_char_low, lone_unit_char_surrogate, utf16_chars-nil}
use Rattle.std.specs.Char.Utf16.{lone_unit_char, surrogate_pair_char, utf16_chars, utf16_lossy_chars}
use Rattle.std.specs.Option.{unwrap_or}
use Rattle.utf16_units.specs.Encoding.{units_of}
use Rattle.utf16_units.specs.IllFormed.{is_incomplete}
use Rattle.utf16_units.specs.Split.{Item, good, lone_lead, lone_trail, lossy_char, lossy_text, put_leading, put_unit, split_items, split_tail, whole_lossy_chars}
use Rattle.utf16_units.specs.Unit.{IsLeading, IsTrailing, unit_of}
use Rattle.utf16_units.proofs.Computed.{is_incomplete-from_IsIncomplete}
use Rattle.utf16_units.proofs.SplitLemmas.{Class, class_of, cut_items, cut_tail, leading, neither, not_cut, put_unit-leading, put_unit-neither, put_unit-trailing, trailing, whole_items, whole_tail}
use Rattle.utf16_transcode.proofs.ToUtf8Parts.{nil_text, tail_text}

-- ---- std's characters

lone_neither : (u : ℕ) → ¬ (IsLeading u) → ¬ (IsTrailing u) → lone_unit_char u ≡ Some u
lone_neither u l t = ⊎_elim
    (λ (low : u < 0xD800). lone_unit_char_low u low)
    (λ (from : 0xD800 ≤ u). ⊎_elim
    (λ (below : u < 0xE000). ⊎_elim
    (λ (lead : u < 0xDC00). absurd (l (from, omega arith)))
    (λ (past : 0xDC00 ≤ u). absurd (t (past, omega arith)))
    (cases_lt u 0xDC00))
    (λ (high : 0xE000 ≤ u). lone_unit_char_high u high)
    (cases_lt u 0xE000))
    (cases_lt u 0xD800)

module _ (u : ℕ) (us : List ℕ) where
  std_neither : ¬ (IsLeading u) → ¬ (IsTrailing u) → utf16_lossy_chars (u ∷ us) ≡ u ∷ utf16_lossy_chars us
  std_neither l t =
      ap (map (λ o. unwrap_or o 0xFFFD))
      (utf16_chars_lone u us (λ (pair : IsPair u (get_or us 0 0)). l (pair.0, omega (arith, pair.1))) ∙ ap (λ o. o ∷ utf16_chars us) (lone_neither u l t))

  std_lone : 0xD800 ≤ u → u < 0xE000 → ¬ (IsPair u (get_or us 0 0)) → utf16_lossy_chars (u ∷ us) ≡ 0xFFFD ∷ utf16_lossy_chars us
  std_lone from below apart =
      ap (map (λ o. unwrap_or o 0xFFFD)) (utf16_chars_lone u us apart ∙ ap (λ o. o ∷ utf16_chars us) (lone_unit_char_surrogate u from below))

std_pair : (u v : ℕ) (us : List ℕ) → IsLeading u → IsTrailing v → utf16_lossy_chars (u ∷ v ∷ us) ≡ surrogate_pair_char u v ∷ utf16_lossy_chars us
std_pair u v us l t = ap (map (λ o. unwrap_or o 0xFFFD)) (utf16_chars_pair u v us (l.0, omega (arith, l.1), t.0, omega (arith, t.1)))

-- ---- the split

whole_cons : (item : Item) (items : List Item) (tail : List ℕ) → whole_lossy_chars (item ∷ items) tail ≡ lossy_char item ∷ whole_lossy_chars items tail
whole_cons item items [] = refl
whole_cons item items (first ∷ after) = refl

-- a leading unit is unpaired before a unit that is not trailing
lead_lead : (u v : ℕ) (items : List Item) → put_leading u (put_leading v items) ≡ lone_lead u ∷ put_leading v items
unfolding put_leading
lead_lead u v [] = refl
lead_lead u v (good c ∷ items) = refl
lead_lead u v (lone_trail t ∷ items) = refl
lead_lead u v (lone_lead t ∷ items) = refl

lead_good : (u v : ℕ) (items : List Item) → put_leading u (good v ∷ items) ≡ lone_lead u ∷ good v ∷ items
unfolding put_leading
lead_good u v items = refl

lead_nil : (u : ℕ) → put_leading u [] ≡ lone_lead u ∷ []
unfolding put_leading
lead_nil u = refl

lead_trail : (u v : ℕ) (items : List Item) → put_leading u (lone_trail v ∷ items) ≡ good (surrogate_pair_char u v) ∷ items
unfolding put_leading
lead_trail u v items = refl

module _ (big : Bool) where
  module _ (first second : ℕ) (bytes : List ℕ) where
    abbrev unit : ℕ
    unit = unit_of big first second

    units : units_of big (first ∷ second ∷ bytes) ≡ unit ∷ units_of big bytes
    unfolding units_of
    units = refl

    -- what a unit adds to the text
    shown : is_incomplete big (first ∷ second ∷ bytes) ≡ false → (item : Item) (items : List Item) → put_unit unit (split_items big bytes) ≡ item ∷ items
        → lossy_text big (first ∷ second ∷ bytes) ≡ lossy_char item ∷ whole_lossy_chars items (split_tail big bytes)
    shown whole item items adds =
        ap₂ whole_lossy_chars (whole_items big first second bytes whole ∙ adds) (whole_tail big first second bytes whole) ∙ whole_cons item items (split_tail big bytes)

  module _ (u first second : ℕ) (bytes : List ℕ) (none : ¬ (IsTrailing (unit_of big first second))) where
    abbrev next : ℕ
    next = unit_of big first second

    lead_alone : put_leading u (split_items big (first ∷ second ∷ bytes)) ≡ lone_lead u ∷ split_items big (first ∷ second ∷ bytes)
    lead_alone = ⊎_elim
        (λ (yes : is_incomplete big (first ∷ second ∷ bytes) ≡ true).
        let items = cut_items big first second bytes yes in
        ap (put_leading u) items ∙ lead_nil u ∙ ap (λ i. lone_lead u ∷ i) (sym items))
        (λ (no : is_incomplete big (first ∷ second ∷ bytes) ≡ false). by_class (class_of next) (whole_items big first second bytes no))
        (cases_Bool (is_incomplete big (first ∷ second ∷ bytes)))
      where
        alone : (items : List Item) → split_items big (first ∷ second ∷ bytes) ≡ items → put_leading u items ≡ lone_lead u ∷ items
            → put_leading u (split_items big (first ∷ second ∷ bytes)) ≡ lone_lead u ∷ split_items big (first ∷ second ∷ bytes)
        alone items is adds = ap (put_leading u) is ∙ adds ∙ ap (λ i. lone_lead u ∷ i) (sym is)

        by_class : Class next → split_items big (first ∷ second ∷ bytes) ≡ put_unit next (split_items big bytes)
            → put_leading u (split_items big (first ∷ second ∷ bytes)) ≡ lone_lead u ∷ split_items big (first ∷ second ∷ bytes)
        by_class (leading l) is = alone (put_leading next (split_items big bytes)) (is ∙ put_unit-leading next (split_items big bytes) l) (lead_lead u next (split_items big bytes))
        by_class (trailing t) is = absurd (none t)
        by_class (neither l t) is = alone (good next ∷ split_items big bytes) (is ∙ put_unit-neither next (split_items big bytes) l t) (lead_good u next (split_items big bytes))

  nothing : lossy_text big [] ≡ utf16_lossy_chars []
  nothing = nil_text big ∙ sym (ap (map (λ o. unwrap_or o 0xFFFD)) utf16_chars-nil)

  -- the last unit
  module _ (first second : ℕ) where
    abbrev one : ℕ
    one = unit_of big first second

    last_unit : Class one → lossy_text big (first ∷ second ∷ []) ≡ utf16_lossy_chars (one ∷ [])
    last_unit (leading l) =
        let cut = is_incomplete-from_IsIncomplete big (first ∷ second ∷ []) (l, omega arith) in
        tail_text big (first ∷ second ∷ []) (λ none. absurd (cc)) (cut_tail big first second [] cut)
        ∙ sym (std_lone one [] l.0 (omega (arith, l.1)) (λ pair. omega (arith, pair.2)) ∙ ap (λ t. 0xFFFD ∷ map (λ o. unwrap_or o 0xFFFD) t) utf16_chars-nil)
    last_unit (trailing t) =
        shown first second [] (not_cut big first second [] (λ l. absurd (omega (arith, l.1, t.0)))) (lone_trail one) (split_items big []) (put_unit-trailing one (split_items big []) t)
        ∙ ap (λ r. 0xFFFD ∷ r) nothing ∙ sym (std_lone one [] (omega (arith, t.0)) (omega (arith, t.1)) (λ pair. omega (arith, pair.1, t.0)))
    last_unit (neither l t) =
        shown first second [] (not_cut big first second [] (λ lead. absurd (l lead))) (good one) (split_items big []) (put_unit-neither one (split_items big []) l t)
        ∙ ap (λ r. one ∷ r) nothing ∙ sym (std_neither one [] l t)

  -- a unit before another, if the law already holds for the rest
  module _ (first second third fourth : ℕ) (bytes : List ℕ)
      (last : lossy_text big (third ∷ fourth ∷ bytes) ≡ utf16_lossy_chars (unit_of big third fourth ∷ units_of big bytes))
      (after : lossy_text big bytes ≡ utf16_lossy_chars (units_of big bytes)) where
    abbrev u : ℕ
    u = unit_of big first second

    abbrev v : ℕ
    v = unit_of big third fourth

    abbrev rest : List ℕ
    rest = third ∷ fourth ∷ bytes

    abbrev us : List ℕ
    us = units_of big bytes

    whole : is_incomplete big (first ∷ second ∷ rest) ≡ false
    whole = not_cut big first second rest (λ l. omega arith)

    alone : IsLeading u → ¬ (IsTrailing v) → lossy_text big (first ∷ second ∷ rest) ≡ utf16_lossy_chars (u ∷ v ∷ us)
    alone l none =
        shown first second rest whole (lone_lead u) (split_items big rest) (put_unit-leading u (split_items big rest) l ∙ lead_alone u third fourth bytes none)
        ∙ ap (λ r. 0xFFFD ∷ r) last ∙ sym (std_lone u (v ∷ us) l.0 (omega (arith, l.1)) (λ pair. none (pair.2, omega (arith, pair.3))))

    by_second : IsLeading u → Class v → lossy_text big (first ∷ second ∷ rest) ≡ utf16_lossy_chars (u ∷ v ∷ us)
    by_second l (trailing t) =
        let next = not_cut big third fourth bytes (λ lead. absurd (omega (arith, lead.1, t.0))) in
        let items = whole_items big third fourth bytes next ∙ put_unit-trailing v (split_items big bytes) t in
        shown first second rest whole (good (surrogate_pair_char u v)) (split_items big bytes)
        (put_unit-leading u (split_items big rest) l ∙ ap (put_leading u) items ∙ lead_trail u v (split_items big bytes))
        ∙ ap (λ t. surrogate_pair_char u v ∷ whole_lossy_chars (split_items big bytes) t) (whole_tail big third fourth bytes next)
        ∙ ap (λ r. surrogate_pair_char u v ∷ r) after ∙ sym (std_pair u v us l t)
    by_second l (leading m) = alone l (λ t. omega (arith, m.1, t.0))
    by_second l (neither m t) = alone l t

    by_first : Class u → lossy_text big (first ∷ second ∷ rest) ≡ utf16_lossy_chars (u ∷ v ∷ us)
    by_first (leading l) = by_second l (class_of v)
    by_first (trailing t) =
        shown first second rest whole (lone_trail u) (split_items big rest) (put_unit-trailing u (split_items big rest) t)
        ∙ ap (λ r. 0xFFFD ∷ r) last ∙ sym (std_lone u (v ∷ us) (omega (arith, t.0)) (omega (arith, t.1)) (λ pair. omega (arith, pair.1, t.0)))
    by_first (neither l t) =
        shown first second rest whole (good u) (split_items big rest) (put_unit-neither u (split_items big rest) l t)
        ∙ ap (λ r. u ∷ r) last ∙ sym (std_neither u (v ∷ us) l t)

  pub lossy_is_std : (bytes : List ℕ) → length bytes % 2 ≡ 0 → lossy_text big bytes ≡ utf16_lossy_chars (units_of big bytes)
  unfolding units_of
  lossy_is_std [] even = nothing
  lossy_is_std (last ∷ []) even = absurd (omega arith)
  lossy_is_std (first ∷ second ∷ []) even = last_unit first second (class_of (unit_of big first second))
  lossy_is_std (first ∷ second ∷ last ∷ []) even = absurd (omega arith)
  lossy_is_std (first ∷ second ∷ third ∷ fourth ∷ bytes) even =
      by_first first second third fourth bytes (lossy_is_std (third ∷ fourth ∷ bytes) (omega (arith, even))) (lossy_is_std bytes (omega (arith, even))) (class_of (unit_of big first second))
