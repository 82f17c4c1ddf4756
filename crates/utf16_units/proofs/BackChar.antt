-- The last character of well-formed bytes, by the units at their end, and boundaries by the unit at
-- an offset.
use Rattle.std.proofs.Common.{◌≡◌, ◌≢◌, ℕ, ◌+◌, ◌-◌, ◌/◌, ◌%◌, ◌<◌, ◌≤◌, ◌⊎◌, Bool, List, [], ◌∷◌, ◌++◌, length, take, drop, slice_index, All, refl, sym, ap, ap₂, ◌∙◌, subst, ⊎_elim, inl, inr, arith, append_assoc, append-nil, length-append, drop_at, take_at, flat_map, get_or-drop}
use Rattle.std.proofs.lemmas.Bool.{cases_lt}
use Rattle.std.proofs.lemmas.List.Elements.{All-head}
use Rattle.std.proofs.str.Utf16.{one_unit, two_units}
use Rattle.std.specs.Char.{IsScalar}
use Rattle.std.specs.Char.Utf16.{surrogate_pair_char}
use Rattle.utf16_units.specs.Unit.{IsLeading, IsTrailing, unit_bytes, unit_of}
use Rattle.utf16_units.specs.Encoding.{char_bytes, char_size, encode, Encodes, IsUtf16, size, text_of}
use Rattle.utf16_units.specs.Boundary.{IsBoundary}
use Rattle.utf16_units.proofs.UnitLemmas.{length-unit_bytes}
use Rattle.utf16_units.proofs.CharLemmas.{char_size_four, char_size_two, length-char_bytes, no_surrogate}
use Rattle.utf16_units.proofs.EncodingLemmas.{All-after, All-before, char_text, Encodes-text_of, encode-append, encode-cons, encode-nil, encode-one, length-encode, length-text, text_of-append}
use Rattle.utf16_units.proofs.BoundaryLemmas.{IsBoundary-at_unit, IsBoundary-end, IsBoundary-within}
use Rattle.utf16_units.proofs.FirstChar.{first_unit}
use Rattle.utf16_units.proofs.FrontChar.{first_unit-bytes, first_unit-char}

pub size-even : (text : List ℕ) → size text % 2 ≡ 0
unfolding size
size-even text = omega arith

-- well-formed bytes are whole units
pub length-even : (big : Bool) (bytes : List ℕ) → IsUtf16 big bytes → length bytes % 2 ≡ 0
length-even big bytes t =
    let long = length-text big bytes t in
    let even = size-even (text_of big bytes) in
    omega arith

-- the unit in the last two bytes before n
abbrev pub unit_before : Bool → List ℕ → ℕ → ℕ
unit_before big bytes n = first_unit big (drop (n - 2) bytes)

-- a list that is not empty has a last element
last_split : (xs : List ℕ) → xs ≢ [] → (front : List ℕ) × (last : ℕ) × (front ++ last ∷ [] ≡ xs)
last_split [] some = absurd (some refl)
last_split (x ∷ []) some = ([], x, refl)
last_split (x ∷ y ∷ xs) some =
    let rest = last_split (y ∷ xs) (λ e. cc e) in
    (x ∷ rest.0, rest.1, ap (λ t. x ∷ t) rest.2)

-- the bytes are the bytes of a text and then of a character
pub record HasLast (big : Bool) (bytes : List ℕ) : Type 0 where
  pub text : List ℕ
  pub char : ℕ
  pub scalars : All IsScalar text
  pub scalar : IsScalar char
  pub spelled : bytes ≡ encode big text ++ char_bytes big char

pub last_of : (big : Bool) (bytes : List ℕ) → IsUtf16 big bytes → 0 < length bytes → HasLast big bytes
last_of big bytes t some =
    let e = t.encodes in
    let nonempty : t.text ≢ [] = λ none.
    let empty : length bytes ≡ 0 = ap length (sym e.spelled ∙ ap (encode big) none ∙ encode-nil big) in
    omega arith in
    let split = last_split t.text nonempty in
    let scalars = subst (All IsScalar) (sym split.2) e.scalars in
    record {
      text = split.0;
      char = split.1;
      scalars = All-before split.0 (split.1 ∷ []) scalars;
      scalar = All-head IsScalar split.1 [] (All-after split.0 (split.1 ∷ []) scalars);
      spelled = sym e.spelled ∙ ap (encode big) (sym split.2) ∙ encode-append big split.0 (split.1 ∷ []) ∙ ap (λ t. encode big split.0 ++ t) (encode-one big split.1);
    }

-- the bytes before the last n are well formed, and the characters are theirs and then c
pub record EndsAt (big : Bool) (bytes : List ℕ) (c n : ℕ) : Type 0 where
  pub scalar : IsScalar c
  pub within : n ≤ length bytes
  pub front : IsUtf16 big (take (length bytes - n) bytes)
  pub text : text_of big bytes ≡ text_of big (take (length bytes - n) bytes) ++ c ∷ []

ends_last : (big : Bool) (bytes : List ℕ) (h : HasLast big bytes) → EndsAt big bytes h.char (char_size h.char)
ends_last big bytes h =
    let front = encode big h.text in
    let n = char_size h.char in
    let long : length bytes ≡ length front + n =
    ap length h.spelled ∙ length-append front (char_bytes big h.char) ∙ ap (λ k. length front + k) (length-char_bytes big h.char) in
    let start : length front ≡ length bytes - n = omega arith in
    let cut : take (length bytes - n) bytes ≡ front = ap (take (length bytes - n)) h.spelled ∙ take_at front (char_bytes big h.char) (length bytes - n) start in
    let whole : IsUtf16 big front = record { text = h.text; encodes = record { scalars = h.scalars; spelled = refl } } in
    let char : text_of big (char_bytes big h.char) ≡ h.char ∷ [] = char_text big h.char h.scalar in
    record {
      scalar = h.scalar;
      within = omega arith;
      front = subst (IsUtf16 big) (sym cut) whole;
      text = ap (text_of big) h.spelled ∙ text_of-append big front (char_bytes big h.char) whole
          ∙ ap₂ (λ x y. x ++ y) (ap (text_of big) (sym cut)) char;
    }

module _ (big : Bool) (bytes : List ℕ) (h : HasLast big bytes) where
  start_of : length (encode big h.text) + char_size h.char ≡ length bytes
  start_of =
      sym (ap length h.spelled ∙ length-append (encode big h.text) (char_bytes big h.char)
      ∙ ap (λ k. length (encode big h.text) + k) (length-char_bytes big h.char))

  one_last : h.char < 0x1_0000 → unit_before big bytes (length bytes) ≡ h.char
  one_last one =
      let two = char_size_two h.char one in
      let sizes = start_of in
      let start : length (encode big h.text) ≡ length bytes - 2 = omega arith in
      ap (λ t. first_unit big (drop (length bytes - 2) t)) h.spelled
      ∙ ap (first_unit big) (drop_at (encode big h.text) (char_bytes big h.char) (length bytes - 2) start)
      ∙ ap (λ us. first_unit big (flat_map (unit_bytes big) us)) (one_unit h.char one)
      ∙ first_unit-bytes big h.char []

  module _ (two : 0x1_0000 ≤ h.char) where
    abbrev lead : ℕ
    lead = 0xD800 + (h.char - 0x1_0000) / 0x400

    abbrev trail : ℕ
    trail = 0xDC00 + (h.char - 0x1_0000) % 0x400

    pair_spelled : bytes ≡ (encode big h.text ++ unit_bytes big lead) ++ (unit_bytes big trail ++ [])
    pair_spelled =
        h.spelled ∙ ap (λ us. encode big h.text ++ flat_map (unit_bytes big) us) (two_units h.char two)
        ∙ sym (append_assoc (encode big h.text) (unit_bytes big lead) (unit_bytes big trail ++ []))

    trail_last : unit_before big bytes (length bytes) ≡ trail
    trail_last =
        let four = char_size_four h.char two in
        let sizes = start_of in
        let front = length-append (encode big h.text) (unit_bytes big lead) in
        let unit = length-unit_bytes big lead in
        let start : length (encode big h.text ++ unit_bytes big lead) ≡ length bytes - 2 = omega arith in
        ap (λ t. first_unit big (drop (length bytes - 2) t)) pair_spelled
        ∙ ap (first_unit big) (drop_at (encode big h.text ++ unit_bytes big lead) (unit_bytes big trail ++ []) (length bytes - 2) start)
        ∙ first_unit-bytes big trail []

    lead_last : unit_before big bytes (length bytes - 2) ≡ lead
    lead_last =
        let four = char_size_four h.char two in
        let sizes = start_of in
        let start : length (encode big h.text) ≡ length bytes - 2 - 2 = omega arith in
        ap (λ t. first_unit big (drop (length bytes - 2 - 2) t)) (pair_spelled ∙ append_assoc (encode big h.text) (unit_bytes big lead) (unit_bytes big trail ++ []))
        ∙ ap (first_unit big) (drop_at (encode big h.text) (unit_bytes big lead ++ (unit_bytes big trail ++ [])) (length bytes - 2 - 2) start)
        ∙ first_unit-bytes big lead (unit_bytes big trail ++ [])

    below : h.char < 0x11_0000
    below = ⊎_elim (λ (low : h.char < 0xD800). omega arith) (λ (high : (0xE000 ≤ h.char) × (h.char < 0x11_0000)). high.1) (no_surrogate h.char h.scalar)

module _ (big : Bool) (bytes : List ℕ) (t : IsUtf16 big bytes) (some : 0 < length bytes) where
  -- a last unit that is not a trailing surrogate is the last character
  pub ends_one : ¬ (IsTrailing (unit_before big bytes (length bytes))) → EndsAt big bytes (unit_before big bytes (length bytes)) 2
  ends_one trailing =
      let h = last_of big bytes t some in
      ⊎_elim
      (λ (one : h.char < 0x1_0000).
      subst (λ c. EndsAt big bytes c 2) (sym (one_last big bytes h one))
      (subst (EndsAt big bytes h.char) (char_size_two h.char one) (ends_last big bytes h)))
      (λ (two : 0x1_0000 ≤ h.char).
      let unit = trail_last big bytes h two in
      absurd (trailing (omega arith, omega arith)))
      (cases_lt h.char 0x1_0000)

  -- a trailing surrogate at the end and the unit before it are the units of the last character
  pub ends_two : IsTrailing (unit_before big bytes (length bytes)) → IsLeading (unit_before big bytes (length bytes - 2))
      × EndsAt big bytes (surrogate_pair_char (unit_before big bytes (length bytes - 2)) (unit_before big bytes (length bytes))) 4
  ends_two trailing =
      let h = last_of big bytes t some in
      ⊎_elim
      (λ (one : h.char < 0x1_0000).
      let unit = one_last big bytes h one in
      ⊎_elim (λ (low : h.char < 0xD800). absurd (omega arith)) (λ (high : (0xE000 ≤ h.char) × (h.char < 0x11_0000)). absurd (omega arith)) (no_surrogate h.char h.scalar))
      (λ (two : 0x1_0000 ≤ h.char).
      let first = lead_last big bytes h two in
      let second = trail_last big bytes h two in
      let bound = below big bytes h two in
      let same : h.char ≡ surrogate_pair_char (unit_before big bytes (length bytes - 2)) (unit_before big bytes (length bytes)) = omega arith in (
        (omega arith, omega arith),
        subst (λ c. EndsAt big bytes c 4) same (subst (EndsAt big bytes h.char) (char_size_four h.char two) (ends_last big bytes h)),
      ))
      (cases_lt h.char 0x1_0000)

-- ---- boundaries by the unit at an offset

-- the unit at a boundary before the end is not a trailing surrogate, and the offset is even
pub IsBoundary-unit : (big : Bool) (text : List ℕ) (i : ℕ) → All IsScalar text → IsBoundary text i → i < size text
    → (i % 2 ≡ 0) × ¬ (IsTrailing (first_unit big (drop i (encode big text))))
IsBoundary-unit big text i scalars b before = at_back b.back refl where
  at_back : (back : List ℕ) → b.back ≡ back → (i % 2 ≡ 0) × ¬ (IsTrailing (first_unit big (drop i (encode big text))))
  at_back [] e =
      let whole = ap size (sym b.split ∙ ap (λ t. b.front ++ t) e ∙ append-nil b.front) in
      let at = b.offset in
      absurd (omega arith)
  at_back (c ∷ back) e =
      let parts : encode big text ≡ encode big b.front ++ encode big (c ∷ back) =
      ap (encode big) (sym b.split ∙ ap (λ t. b.front ++ t) e) ∙ encode-append big b.front (c ∷ back) in
      let rest : drop i (encode big text) ≡ char_bytes big c ++ encode big back =
      ap (drop i) parts ∙ drop_at (encode big b.front) (encode big (c ∷ back)) i (length-encode big b.front ∙ b.offset) ∙ encode-cons big c back in
      let scalar : IsScalar c = All-head IsScalar c back (All-after b.front (c ∷ back) (subst (All IsScalar) (sym b.split ∙ ap (λ t. b.front ++ t) e) scalars)) in
      let even = size-even b.front in
      (omega arith, λ trailing. first_unit-char big c (encode big back) scalar (subst (λ t. IsTrailing (first_unit big t)) rest trailing))

module _ (big : Bool) (bytes : List ℕ) (i : ℕ) (t : IsUtf16 big bytes) where
  encoded : Encodes big (text_of big bytes) bytes
  encoded = Encodes-text_of big bytes t

  pub boundary_at_end : i ≡ length bytes → IsBoundary (text_of big bytes) i
  boundary_at_end e = subst (IsBoundary (text_of big bytes)) (sym (length-text big bytes t) ∙ sym e) (IsBoundary-end (text_of big bytes))

  pub boundary_at_unit : i < length bytes → i % 2 ≡ 0 → ¬ (IsTrailing (first_unit big (drop i bytes))) → IsBoundary (text_of big bytes) i
  boundary_at_unit before even class =
      let long = length-text big bytes t in
      IsBoundary-at_unit big (text_of big bytes) i encoded.scalars even (omega arith)
      (λ trailing. class (subst (λ b. IsTrailing (first_unit big (drop i b))) encoded.spelled trailing))

  -- every boundary is the end, or an even offset at which there is no trailing surrogate
  pub boundary_is : IsBoundary (text_of big bytes) i
      → (i ≡ length bytes) ⊎ ((i < length bytes) × (i % 2 ≡ 0) × ¬ (IsTrailing (first_unit big (drop i bytes))))
  boundary_is b =
      let long = length-text big bytes t in
      let within = IsBoundary-within (text_of big bytes) i b in
      ⊎_elim
      (λ (before : i < size (text_of big bytes)).
      let found = IsBoundary-unit big (text_of big bytes) i encoded.scalars b before in
      inr (omega arith, found.0, λ trailing. found.1 (subst (λ b. IsTrailing (first_unit big (drop i b))) (sym encoded.spelled) trailing)))
      (λ (end : size (text_of big bytes) ≤ i). inl (omega arith))
      (cases_lt i (size (text_of big bytes)))

-- the unit at an offset
pub first_unit-drop : (big : Bool) (bytes : List ℕ) (i : ℕ) → first_unit big (drop i bytes) ≡ unit_of big (slice_index bytes i) (slice_index bytes (i + 1))
first_unit-drop big bytes i =
    let here : i + 0 ≡ i = omega arith in
    ap₂ (unit_of big) (get_or-drop i bytes 0 0 ∙ ap (slice_index bytes) here) (get_or-drop i bytes 1 0)

-- the unit before an offset, by its two bytes
pub unit_before-is : (big : Bool) (bytes : List ℕ) (n : ℕ) → 2 ≤ n → unit_before big bytes n ≡ unit_of big (slice_index bytes (n - 2)) (slice_index bytes (n - 1))
unit_before-is big bytes n le =
    let next : n - 2 + 1 ≡ n - 1 = omega arith in
    first_unit-drop big bytes (n - 2) ∙ ap (λ k. unit_of big (slice_index bytes (n - 2)) (slice_index bytes k)) next

pub unit_before-two : (big : Bool) (bytes : List ℕ) (n : ℕ) → 4 ≤ n → unit_before big bytes (n - 2) ≡ unit_of big (slice_index bytes (n - 4)) (slice_index bytes (n - 3))
unit_before-two big bytes n le =
    let first : n - 2 - 2 ≡ n - 4 = omega arith in
    let second : n - 2 - 1 ≡ n - 3 = omega arith in
    unit_before-is big bytes (n - 2) (omega arith) ∙ ap₂ (λ i j. unit_of big (slice_index bytes i) (slice_index bytes j)) first second
