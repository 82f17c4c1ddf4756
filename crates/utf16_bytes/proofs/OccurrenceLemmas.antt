-- Occurrences in well-formed text, and the boundaries of the text.
use Rattle.std.proofs.Common.{◌≡◌, inl, inr, ⊎_elim, ℕ, ◌+◌, ◌-◌, ◌/◌, ◌%◌, ◌<◌, ◌≤◌, Bool, List, [], ◌∷◌, ◌++◌, All, length, take, drop, slice_index, sym, ap, ◌∙◌, subst, arith, append_assoc, flat_map, length-take-le}
use Rattle.std.proofs.Math.Seq.{drop-append-add}
use Rattle.std.proofs.lemmas.Bool.{cases_eq, cases_lt}
use Rattle.std.proofs.lemmas.List.Elements.{All-head, All-tail}
use Rattle.std.proofs.lemmas.List.{drop_more}
use Rattle.std.proofs.str.Utf16.{two_units}
use Rattle.std.specs.Char.{IsScalar}
use Rattle.utf16_units.specs.Boundary.{IsBoundary, OccursIn, text_between, text_from, text_to}
use Rattle.utf16_units.specs.Encoding.{Encodes, IsUtf16, char_bytes, char_size, encode, size, text_of}
use Rattle.utf16_units.specs.Split.{BeginsUnpaired}
use Rattle.utf16_units.specs.Unit.{IsLeading, IsTrailing, unit_bytes, unit_of}
use Rattle.utf16_units.proofs.BackChar.{boundary_at_end, boundary_at_unit, boundary_is, first_unit-drop, length-even}
use Rattle.utf16_units.proofs.BoundaryLemmas.{Encodes-between, size-text_to, text_from-at, text_to-text_from}
use Rattle.utf16_units.proofs.CharLemmas.{char_size_cases, char_size_two, length-char_bytes, no_surrogate}
use Rattle.utf16_units.proofs.EncodingLemmas.{IsUtf16-from_Encodes, encode-cons, length-encode, size-append, size-cons, size-nil, text_of-Encodes, text_of-encode}
use Rattle.utf16_units.proofs.FirstChar.{first_unit}
use Rattle.utf16_units.proofs.FrontChar.{first_unit-bytes, first_unit-char}
use Rattle.utf16_units.proofs.LawProofs.{at_boundaries, found_exactly}
use Rattle.utf16_units.proofs.SplitLemmas.{Class, class_of, leading, trailing, neither}
use Rattle.utf16_bytes.specs.Boundary.{EndsLeading, IsCut}
use Rattle.utf16_bytes.specs.SearchLaws.{OccurrenceInText, TextAroundPart, UnitsCutNoPair}
use Rattle.utf16_bytes.specs.Occurrence.{IsOccurrence}
use Rattle.utf16_bytes.proofs.AlikeLemmas.{last_unit}

-- the first unit of a surrogate pair is leading
pair_leading : (big : Bool) (c : ℕ) (bytes : List ℕ) → IsScalar c → 0x1_0000 ≤ c → IsLeading (first_unit big (char_bytes big c ++ bytes))
pair_leading big c bytes scalar two =
    let lead = 0xD800 + (c - 0x1_0000) / 0x400 in
    let trail = 0xDC00 + (c - 0x1_0000) % 0x400 in
    let spelled : char_bytes big c ++ bytes ≡ unit_bytes big lead ++ ((unit_bytes big trail ++ []) ++ bytes) =
    ap (λ us. flat_map (unit_bytes big) us ++ bytes) (two_units c two) ∙ append_assoc (unit_bytes big lead) (unit_bytes big trail ++ []) bytes in
    let unit : first_unit big (char_bytes big c ++ bytes) ≡ lead = ap (first_unit big) spelled ∙ first_unit-bytes big lead ((unit_bytes big trail ++ []) ++ bytes) in
    let below : c < 0x11_0000 = ⊎_elim (λ (low : c < 0xD800). omega (arith, low, two)) (λ (high : (0xE000 ≤ c) × (c < 0x11_0000)). high.1) (no_surrogate c scalar) in
    let class : IsLeading lead = (omega arith, omega (arith, below)) in
    subst IsLeading (sym unit) class

-- what is left of a text's bytes after its first character
drop-char : (big : Bool) (c : ℕ) (text : List ℕ) (n : ℕ) → drop (char_size c + n) (encode big (c ∷ text)) ≡ drop n (encode big text)
drop-char big c text n =
    let long = length-char_bytes big c in
    ap (drop (char_size c + n)) (encode-cons big c text)
    ∙ ap (λ k. drop (k + n) (char_bytes big c ++ encode big text)) (sym long)
    ∙ drop-append-add (char_bytes big c) (encode big text) n

-- a trailing surrogate comes after a leading one
after_leading : (big : Bool) (text : List ℕ) (i : ℕ) → All IsScalar text → i % 2 ≡ 0 → i < size text
    → IsTrailing (first_unit big (drop i (encode big text))) → (2 ≤ i) × IsLeading (first_unit big (drop (i - 2) (encode big text)))
after_leading big [] i scalars even within class = absurd (omega (arith, within, size-nil))
after_leading big (c ∷ text) i scalars even within class =
    let scalar = All-head IsScalar c text scalars in
    let cons = encode-cons big c text in
    ⊎_elim
    (λ (short : i < char_size c). ⊎_elim
    (λ (start : i ≡ 0). absurd (first_unit-char big c (encode big text) scalar (subst (λ k. IsTrailing (first_unit big (drop k (char_bytes big c ++ encode big text)))) start
    (subst (λ t. IsTrailing (first_unit big (drop i t))) cons class))))
    (λ (inside : i ≡ 0 → ⊥). ⊎_elim
    (λ (one : c < 0x1_0000). absurd (omega (arith, char_size_two c one, short, inside, even)))
    (λ (pair : 0x1_0000 ≤ c).
    let middle : i ≡ 2 = ⊎_elim (λ (s : char_size c ≡ 2). omega (arith, s, short, inside, even)) (λ (s : char_size c ≡ 4). omega (arith, s, short, inside, even)) (char_size_cases c) in
    let zero_is : 0 ≡ i - 2 = omega (arith, middle) in
    (omega (arith, middle), subst (λ k. IsLeading (first_unit big (drop k (encode big (c ∷ text))))) zero_is (subst (λ t. IsLeading (first_unit big t)) (sym cons) (pair_leading big c (encode big text) scalar pair))))
    (cases_lt c 0x1_0000))
    (cases_eq i 0))
    (λ (fits : char_size c ≤ i).
    let even_size : char_size c % 2 ≡ 0 = ⊎_elim (λ (s : char_size c ≡ 2). omega (arith, s)) (λ (s : char_size c ≡ 4). omega (arith, s)) (char_size_cases c) in
    let j = i - char_size c in
    let is : i ≡ char_size c + j = omega (arith, fits) in
    let here : drop i (encode big (c ∷ text)) ≡ drop j (encode big text) = ap (λ k. drop k (encode big (c ∷ text))) is ∙ drop-char big c text j in
    let before = after_leading big text j (All-tail IsScalar c text scalars) (omega (arith, even, even_size, fits)) (omega (arith, within, size-cons c text, fits))
    (subst (λ t. IsTrailing (first_unit big t)) here class) in
    let was : i - 2 ≡ char_size c + (j - 2) = omega (arith, fits, before.0) in (
      omega (arith, before.0),
      subst (λ t. IsLeading (first_unit big t)) (sym (ap (λ k. drop k (encode big (c ∷ text))) was ∙ drop-char big c text (j - 2))) before.1,
    ))
    (cases_lt i (char_size c))

-- ---- boundaries of well-formed bytes

not_begins : (big : Bool) (rest : List ℕ) → IsTrailing (first_unit big rest) → BeginsUnpaired big rest → ⊥
not_begins big [] t begins = begins
not_begins big (last ∷ []) t begins = begins
not_begins big (first ∷ second ∷ after) t begins = begins t

module _ (big : Bool) (text bytes : List ℕ) (e : Encodes big text bytes) where
  well_formed : IsUtf16 big bytes
  well_formed = IsUtf16-from_Encodes big text bytes e

  unit_is : (i : ℕ) → first_unit big (drop i bytes) ≡ unit_of big (slice_index bytes i) (slice_index bytes (i + 1))
  unit_is i = first_unit-drop big bytes i

  pub cut_from_boundary : (i : ℕ) → IsBoundary text i → IsCut big bytes i
  cut_from_boundary i b = ⊎_elim
      (λ (end : i ≡ length bytes). inl end)
      (λ (inside : (i < length bytes) × (i % 2 ≡ 0) × ¬ (IsTrailing (first_unit big (drop i bytes)))).
      let whole : i + 2 ≤ length bytes = omega (arith, inside.0, inside.1, length-even big bytes well_formed) in
      inr (inside.0, inside.1, λ ends. begins i whole (λ t. inside.2 (subst IsTrailing (sym (unit_is i)) t))))
      (boundary_is big bytes i well_formed (subst (λ t. IsBoundary t i) (sym (text_of-Encodes big text bytes e)) b))
    where
      begins : (i : ℕ) → i + 2 ≤ length bytes → ¬ (IsTrailing (unit_of big (slice_index bytes i) (slice_index bytes (i + 1)))) → BeginsUnpaired big (drop i bytes)
      begins i within not_trailing =
          subst (BeginsUnpaired big)
          (sym (drop_more bytes i 0 (omega (arith, within)) ∙ ap (λ t. slice_index bytes i ∷ t) (drop_more bytes (i + 1) 0 (omega (arith, within)))))
          not_trailing

  pub boundary_from_cut : (i : ℕ) → IsCut big bytes i → IsBoundary text i
  boundary_from_cut i (inl end) = subst (λ t. IsBoundary t i) (text_of-Encodes big text bytes e) (boundary_at_end big bytes i well_formed end)
  boundary_from_cut i (inr between) =
      subst (λ t. IsBoundary t i) (text_of-Encodes big text bytes e)
      (boundary_at_unit big bytes i well_formed between.0 between.1 (by_class (class_of (first_unit big (drop i bytes)))))
    where
      by_class : Class (first_unit big (drop i bytes)) → ¬ (IsTrailing (first_unit big (drop i bytes)))
      by_class (leading l) t = omega (arith, l.1, t.0)
      by_class (neither l n) t = n t
      by_class (trailing c) t =
          let long = ap length (sym e.spelled) ∙ length-encode big text in
          let before = after_leading big text i e.scalars between.1 (omega (arith, between.0, long)) (subst (λ b. IsTrailing (first_unit big (drop i b))) (sym e.spelled) t) in
          let second : i - 2 + 1 ≡ i - 1 = omega (arith, before.0) in
          let lead : IsLeading (unit_of big (slice_index bytes (i - 2)) (slice_index bytes (i - 1))) =
          subst (λ k. IsLeading (unit_of big (slice_index bytes (i - 2)) (slice_index bytes k))) second
          (subst IsLeading (unit_is (i - 2)) (subst (λ b. IsLeading (first_unit big (drop (i - 2) b))) e.spelled before.1)) in
          let ends : EndsLeading big (take i bytes) =
          (omega (arith, length-take-le i bytes (omega (arith, between.0)), before.0), subst IsLeading (sym (last_unit big bytes i before.0 (omega (arith, between.0)))) lead) in
          not_begins big (drop i bytes) t (between.2 ends)

-- ---- the laws

pub text_around : TextAroundPart
text_around text part i o =
    let back = text_from text i in
    let n = i + size part - i in
    let rest = text_from back n in
    let whole : text ≡ text_to text i ++ (part ++ rest) =
    sym (text_to-text_from text i) ∙ ap (λ t. text_to text i ++ t) (sym (text_to-text_from back n) ∙ ap (λ t. t ++ rest) o.between) in
    let joined : text ≡ (text_to text i ++ part) ++ rest = whole ∙ sym (append_assoc (text_to text i) part rest) in
    let long : size (text_to text i ++ part) ≡ i + size part = size-append (text_to text i) part ∙ ap (λ k. k + size part) (size-text_to text i o.start) in
    let after : text_from text (i + size part) ≡ rest =
    ap (λ t. text_from t (i + size part)) joined ∙ text_from-at (text_to text i ++ part) rest (i + size part) long in
    joined ∙ ap (λ t. (text_to text i ++ part) ++ t) (sym after)

module _ (big : Bool) (text part bytes part_bytes : List ℕ) (i : ℕ) (e : Encodes big text bytes) (p : Encodes big part part_bytes) where
  long : length part_bytes ≡ size part
  long = ap length (sym p.spelled) ∙ length-encode big part

  into : OccursIn text i part → IsOccurrence big bytes part_bytes i
  into o = record {
    bytes = at_boundaries big text part bytes part_bytes i e p o;
    start = cut_from_boundary big text bytes e i o.start;
    end = subst (λ n. IsCut big bytes (i + n)) (sym long) (cut_from_boundary big text bytes e (i + size part) o.end);
  }

  out : IsOccurrence big bytes part_bytes i → OccursIn text i part
  out o =
      let start = boundary_from_cut big text bytes e i o.start in
      let end = boundary_from_cut big text bytes e (i + size part) (subst (λ n. IsCut big bytes (i + n)) long o.end) in
      let between = Encodes-between big text bytes i (i + size part) e (omega arith) start end in
      let same : i + size part - i ≡ length part_bytes = omega (arith, long) in
      let spelled = between.spelled ∙ ap (λ n. take n (drop i bytes)) same ∙ o.bytes ∙ sym p.spelled in
      record {
        start = start;
        end = end;
        between = sym (text_of-encode big (text_between text i (i + size part)) between.scalars) ∙ ap (text_of big) spelled ∙ text_of-encode big part p.scalars;
      }

pub occurrence_in_text : OccurrenceInText
occurrence_in_text big text part bytes part_bytes i e p = (out big text part bytes part_bytes i e p, into big text part bytes part_bytes i e p)

pub units_cut_no_pair : UnitsCutNoPair
units_cut_no_pair big text part bytes part_bytes i e p some =
    let exactly = found_exactly big text part bytes part_bytes i e p some in (
      (λ o. into big text part bytes part_bytes i e p (exactly.0 o)),
      (λ o. exactly.1 (out big text part bytes part_bytes i e p o)),
    )
