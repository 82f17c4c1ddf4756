-- What a search for bytes says of occurrences.
use Rattle.std.proofs.Common.{◌≡◌, ◌⊎◌, inl, inr, ⊎_elim, ℕ, ◌+◌, ◌-◌, ◌<◌, ◌≤◌, Bool, true, min, nat_eq, List, ◌++◌, Option, None, Some, length, take, drop, slice_index, sym, ap, ◌∙◌, subst, arith, get_or-drop, get_or-take, length-drop, length-take-le, refl, take_at, take-append-drop}
use Rattle.std.specs.List.{starts_with}
use Rattle.std.proofs.lemmas.Bool.{cases_lt}
use Rattle.std.proofs.lemmas.Bool.Decides.{Decides-eqb}
use Rattle.std.proofs.lemmas.Slice.Eq.{starts_is}
use Rattle.utf16_units.specs.Laws
use Rattle.utf16_bytes.specs.Boundary.{IsCut}
use Rattle.memchr.specs.Find.{FindsLastNeedle, FindsLastNeedleBy, FindsNeedle, NoneAfter, NoneBefore, Nowhere, OccursAt}
use Rattle.memchr.proofs.lemmas.MatchLemmas.{OccursAt-from_part}
use Rattle.utf16_bytes.specs.Occurrence.{IsFirst, IsLast, IsOccurrence}

-- a boundary is in the text
pub cut_within : (big : Bool) (text : List ℕ) (i : ℕ) → IsCut big text i → i ≤ length text
cut_within big text i (inl end) = omega (arith, end)
cut_within big text i (inr between) = omega (arith, between.0)

module _ (big : Bool) (text pattern : List ℕ) where
  -- where the pattern occurs, its bytes are
  pub occurrence_bytes : (i : ℕ) → IsOccurrence big text pattern i → OccursAt text pattern i
  occurrence_bytes i o = OccursAt-from_part text pattern i (cut_within big text _ o.end) o.bytes

-- whether the bytes from an offset on begin with the pattern's
pub starts_at : (text pattern rest : List ℕ) (at : ℕ) (r : Bool) → rest ≡ drop at text → r ≡ starts_with nat_eq rest pattern
    → ((r ≡ true → Laws.OccursAt text at pattern) × (Laws.OccursAt text at pattern → r ≡ true))
starts_at text pattern rest at r is e =
    let begins = starts_is Decides-eqb rest pattern r e in
    let n = length pattern in (
      (λ yes. ap (take n) (sym is ∙ begins.0 yes) ∙ take_at pattern (drop n rest) n refl),
      (λ o. begins.1 (drop n rest) (sym (take-append-drop n rest) ∙ ap (λ t. t ++ drop n rest) (ap (take n) is ∙ o))),
    )

module _ (text pattern : List ℕ) (start : ℕ) (within : start ≤ length text) where
  -- an offset in what follows `start`
  into : (k : ℕ) → OccursAt text pattern (start + k) → OccursAt (drop start text) pattern k
  into k o = record {
    fits = omega (arith, o.fits, length-drop start text);
    reads = λ j l.
        let is : start + (k + j) ≡ start + k + j = omega arith in
        get_or-drop start text (k + j) 0 ∙ ap (slice_index text) is ∙ o.reads j l;
  }

  out : (k : ℕ) → OccursAt (drop start text) pattern k → OccursAt text pattern (start + k)
  out k o = record {
    fits = omega (arith, o.fits, length-drop start text, within);
    reads = λ j l.
        let is : start + k + j ≡ start + (k + j) = omega arith in
        ap (slice_index text) is ∙ sym (get_or-drop start text (k + j) 0) ∙ o.reads j l;
  }

  back : (i : ℕ) → start ≤ i → OccursAt text pattern i → OccursAt (drop start text) pattern (i - start)
  back i le o =
      let is : i ≡ start + (i - start) = omega (arith, le) in
      into (i - start) (subst (OccursAt text pattern) is o)

  pub finds_none : FindsNeedle (drop start text) pattern 0 None → FindsNeedle text pattern start None
  finds_none none i low high o = none (i - start) (omega arith) (omega (arith, low, high, length-drop start text)) (back i low o)

  pub finds_some : (k : ℕ) → FindsNeedle (drop start text) pattern 0 (Some k) → FindsNeedle text pattern start (Some (start + k))
  finds_some k found = (
    record {
      low = omega arith;
      high = omega (arith, found.0.high, length-drop start text, within);
      before = λ i low less o. found.0.before (i - start) (omega arith) (omega (arith, low, less)) (back i low o);
    },
    out k found.1,
  )

module _ (text pattern : List ℕ) (end : ℕ) (within : end ≤ length text) where
  -- an offset in what precedes `end`
  before : (k : ℕ) → k + length pattern ≤ end → OccursAt text pattern k → OccursAt (take end text) pattern k
  before k fits o = record {
    fits = omega (arith, fits, length-take-le end text within);
    reads = λ j l. get_or-take end text (k + j) 0 (omega (arith, fits, l)) ∙ o.reads j l;
  }

  whole : (k : ℕ) → OccursAt (take end text) pattern k → OccursAt text pattern k
  whole k o =
      let long = length-take-le end text within in
      record {
        fits = omega (arith, o.fits, long, within);
        reads = λ j l. sym (get_or-take end text (k + j) 0 (omega (arith, o.fits, long, l))) ∙ o.reads j l;
      }

  pub finds_last_by : (r : Option ℕ) → FindsLastNeedle (take end text) pattern r → FindsLastNeedleBy text pattern end r
  finds_last_by None none = λ i low high o. none i low (omega (arith, high, length-take-le end text within)) (before i (omega (arith, high)) o)
  finds_last_by (Some k) found =
      let long = length-take-le end text within in (
        record {
          low = omega arith;
          high = omega (arith, found.1.fits, long);
          after = λ i low less o. found.0.after i low (omega (arith, less, long)) (before i (omega (arith, less)) o);
        },
        whole k found.1,
      )

-- ---- what each step of a search knows

module _ (big : Bool) (text pattern : List ℕ) where
  abbrev Occurs : ℕ → Type 0
  Occurs = IsOccurrence big text pattern

  occurrence_within : (i : ℕ) → Occurs i → i + length pattern ≤ length text
  occurrence_within i o = cut_within big text (i + length pattern) o.end

  module _ (start : ℕ) (below : (i : ℕ) → i < start → ¬ (Occurs i)) where
    pub first_none : FindsNeedle text pattern start None → IsFirst Occurs None
    first_none none i o = ⊎_elim
        (λ (less : i < start). below i less o)
        (λ (not_less : start ≤ i). none i not_less (omega (arith, occurrence_within i o)) (occurrence_bytes big text pattern i o))
        (cases_lt i start)

    pub less_none : (at : ℕ) → FindsNeedle text pattern start (Some at) → (i : ℕ) → i < at → ¬ (Occurs i)
    less_none at found i less_at o = ⊎_elim
        (λ (less : i < start). below i less o)
        (λ (not_less : start ≤ i). found.0.before i not_less less_at (occurrence_bytes big text pattern i o))
        (cases_lt i start)

    -- nor at that offset
    pub passed : (at : ℕ) → FindsNeedle text pattern start (Some at) → ¬ (Occurs at) → (i : ℕ) → i ≤ at → ¬ (Occurs i)
    passed at found not_here i le o = ⊎_elim
        (λ (less : i < at). less_none at found i less o)
        (λ (not_less : at ≤ i). let same : i ≡ at = omega (arith, le, not_less) in not_here (subst Occurs same o))
        (cases_lt i at)

    -- nor at the next few offsets
    pub below_near : (end : ℕ) → Nowhere Occurs start end → (i : ℕ) → i < end → ¬ (Occurs i)
    below_near end none i less_end o = ⊎_elim
        (λ (less : i < start). below i less o)
        (λ (not_less : start ≤ i). none i not_less less_end o)
        (cases_lt i start)

    pub near_first : (end at : ℕ) → NoneBefore Occurs start end at × Occurs at → IsFirst Occurs (Some at)
    near_first end at found = (found.1, below_near at found.0.before)

  module _ (below end : ℕ) (bound : (end ≡ length text) ⊎ (below + length pattern ≤ end + 1)) (above : (i : ℕ) → below ≤ i → ¬ (Occurs i)) where
    -- an occurrence below the offset ends by `end`
    fits : (i : ℕ) → i < below → Occurs i → i + length pattern ≤ end
    fits i less o = ⊎_elim (λ (is : end ≡ length text). omega (arith, is, occurrence_within i o)) (λ (le : below + length pattern ≤ end + 1). omega (arith, le, less)) bound

    pub last_none : FindsLastNeedleBy text pattern end None → IsLast Occurs None
    last_none none i o = ⊎_elim
        (λ (less : i < below). none i (omega arith) (omega (arith, fits i less o)) (occurrence_bytes big text pattern i o))
        (λ (not_less : below ≤ i). above i not_less o)
        (cases_lt i below)

    pub more_none : (at : ℕ) → FindsLastNeedleBy text pattern end (Some at) → (i : ℕ) → at < i → ¬ (Occurs i)
    more_none at found i more_at o = ⊎_elim
        (λ (less : i < below). found.0.after i (omega (arith, more_at)) (omega (arith, fits i less o)) (occurrence_bytes big text pattern i o))
        (λ (not_less : below ≤ i). above i not_less o)
        (cases_lt i below)

    pub passed_back : (at : ℕ) → FindsLastNeedleBy text pattern end (Some at) → ¬ (Occurs at) → (i : ℕ) → at ≤ i → ¬ (Occurs i)
    passed_back at found not_here i le o = ⊎_elim
        (λ (more : at < i). more_none at found i more o)
        (λ (not_more : i ≤ at). let same : i ≡ at = omega (arith, le, not_more) in not_here (subst Occurs same o))
        (cases_lt at i)

  module _ (below : ℕ) (above : (i : ℕ) → below ≤ i → ¬ (Occurs i)) where
    pub above_near : (start : ℕ) → Nowhere Occurs start below → (i : ℕ) → start ≤ i → ¬ (Occurs i)
    above_near start none i more o = ⊎_elim
        (λ (less : i < below). none i more less o)
        (λ (not_less : below ≤ i). above i not_less o)
        (cases_lt i below)

    pub near_last : (start at : ℕ) → NoneAfter Occurs start below at × Occurs at → IsLast Occurs (Some at)
    near_last start at found = (found.1, λ i more. above_near (at + 1) found.0.after i (omega (arith, more)))

-- how far an occurrence below an offset reaches
pub reach : (len below n end : ℕ) → 0 < below → end ≡ min len (below - 1 + n) → (end ≡ len) ⊎ (below + n ≤ end + 1)
reach len below n end some is = ⊎_elim
    (λ (less : len < below). inl (omega (arith, is, less)))
    (λ (not_less : below ≤ len). ⊎_elim
    (λ (over : len < below - 1 + n). inl (omega (arith, is, over)))
    (λ (within : below - 1 + n ≤ len). inr (omega (arith, is, within, some)))
    (cases_lt len (below - 1 + n)))
    (cases_lt len below)
