-- The split of UTF-16 is what a reader gets that resumes by the error: its items' text, with U+FFFD,
-- and its tail.
use Rattle.std.proofs.Common.{◌≡◌, ℕ, ◌+◌, Bool, true, false, List, [], ◌∷◌, ◌++◌, None, Some, length, map, take, drop, refl, sym, ap, ap₂, ◌∙◌, subst, ⊎_elim, arith, append-nil, append_assoc, take_at, drop_at, true≢false}
use Rattle.std.proofs.lemmas.Bool.{cases_Bool}
use Rattle.std.proofs.lemmas.List.{map-append}
use Rattle.std.proofs.lemmas.List.Elements.{All-nil}
use Rattle.std.specs.Char.{IsScalar}
use Rattle.std.specs.Char.Utf16.{is_high_surrogate}
use Rattle.utf16_units.specs.Encoding.{Encodes, is_utf16, text_of}
use Rattle.utf16_units.specs.IllFormed.{IsIllFormed, IsUtf16ValidUpTo, ill_formed_len}
use Rattle.utf16_units.specs.Split.{good, items_bytes, lossy_char, lossy_chars, split_items, split_tail}
use Rattle.utf16_units.proofs.Computed.{IsIllFormed-computed}
use Rattle.utf16_units.proofs.EncodingLemmas.{encode-nil, Encodes-text_of, IsUtf16-from_is_utf16, is_utf16-from_IsUtf16, text_of-Encodes}
use Rattle.utf16_units.proofs.FirstChar.{AreBytes, first_unit}
use Rattle.utf16_units.proofs.SplitIllFormed.{AreBytes-drop, AreBytes-take, lone_item, split_items-incomplete, split_items-fault, split_tail-incomplete, split_tail-fault}
use Rattle.utf16_units.proofs.SplitJoin.{split_items-append, split_items-text, split_tail-append, split_tail-text}
use Rattle.utf16_units.specs.Recipe.{RecipeOf, utf16_coding}
use Rattle.utf16_units.proofs.Resuming.{Decided, SplitAtErrors, has_error, is_text, split_of_recipe}
use Rattle.utf16_units.proofs.SplitLemmas.{Split-computed}

-- ---- the characters of items

-- a character gives itself
pub lossy_chars-good : (text : List ℕ) → lossy_chars (map good text) ≡ text
lossy_chars-good [] = refl
lossy_chars-good (c ∷ text) = ap (λ t. c ∷ t) (lossy_chars-good text)

-- and an unpaired surrogate U+FFFD
pub lossy_char-lone_item : (unit : ℕ) → lossy_char (lone_item unit) ≡ 0xFFFD
lossy_char-lone_item unit = ⊎_elim (λ (e : is_high_surrogate unit ≡ true). rw e refl) (λ (e : is_high_surrogate unit ≡ false). rw e refl)
    (cases_Bool (is_high_surrogate unit))

-- the items of a text, and its tail
pub split_text : (big : Bool) (text bytes : List ℕ) → Encodes big text bytes → (split_items big bytes ≡ map good text) × (split_tail big bytes ≡ [])
unfolding split_items split_tail
split_text big text bytes e = (
  ap (split_items big) (sym (append-nil bytes)) ∙ split_items-text big text bytes [] e ∙ append-nil (map good text),
  ap (split_tail big) (sym (append-nil bytes)) ∙ split_tail-text big text bytes [] e,
)

-- an ill-formed sequence that has a length has two bytes
pub two : {big : Bool} {bytes : List ℕ} {n : ℕ} → IsIllFormed big bytes (Some n) → IsIllFormed big bytes (Some 2)
two {big} {bytes} fault = subst (λ k. IsIllFormed big bytes (Some k)) fault.at_front.0 fault

-- ---- the recipe

-- bytes that are not a text have an error
decided : (big : Bool) (bytes : List ℕ) → Decided (utf16_coding big) bytes
decided big bytes = ⊎_elim
    (λ (yes : is_utf16 big bytes ≡ true). is_text (text_of big bytes) (Encodes-text_of big bytes (IsUtf16-from_is_utf16 big bytes yes)))
    (λ (no : is_utf16 big bytes ≡ false).
    let wrong = IsIllFormed-computed big bytes (λ text. true≢false (sym (is_utf16-from_IsUtf16 big bytes text) ∙ no)) in
    let n = wrong.valid_up_to in
    has_error (text_of big (take n bytes)) n (ill_formed_len big bytes) (wrong.front, wrong) (Encodes-text_of big (take n bytes) wrong.front.valid))
    (cases_Bool (is_utf16 big bytes))

module _ (big : Bool) where
  abbrev text : List ℕ → List ℕ
  text bytes = lossy_chars (split_items big bytes)

  whole : (bytes given : List ℕ) → Encodes big given bytes → (text bytes ≡ given) × (split_tail big bytes ≡ [])
  whole bytes given e =
      let split = split_text big given bytes e in
      (ap lossy_chars split.0 ∙ lossy_chars-good given, split.1)

  fault : (bytes front : List ℕ) (n len : ℕ) → AreBytes bytes → IsUtf16ValidUpTo big bytes n × IsIllFormed big bytes (Some len) → Encodes big front (take n bytes)
      → (text bytes ≡ front ++ 0xFFFD ∷ text (drop (n + len) bytes)) × (split_tail big bytes ≡ split_tail big (drop (n + len) bytes))
  fault bytes front n len are (at, wrong) e =
      let unit = first_unit big (drop n bytes) in
      let same = ap (λ k. drop (n + k) bytes) (sym wrong.at_front.0) in
      let given = lossy_chars-good (text_of big (take n bytes)) ∙ text_of-Encodes big front (take n bytes) e in (
        ap lossy_chars (split_items-fault big bytes n are (two wrong) at)
            ∙ map-append lossy_char (map good (text_of big (take n bytes))) (lone_item unit ∷ split_items big (drop (n + 2) bytes))
            ∙ ap₂ (λ f m. f ++ m ∷ text (drop (n + 2) bytes)) given (lossy_char-lone_item unit) ∙ ap (λ b. front ++ 0xFFFD ∷ text b) same,
        split_tail-fault big bytes n are (two wrong) at ∙ ap (split_tail big) same,
      )

  cut : (bytes front : List ℕ) (n : ℕ) → IsUtf16ValidUpTo big bytes n × IsIllFormed big bytes None → Encodes big front (take n bytes)
      → (text bytes ≡ front) × (split_tail big bytes ≡ drop n bytes)
  cut bytes front n (at, wrong) e = (
    ap lossy_chars (split_items-incomplete big bytes n wrong at) ∙ lossy_chars-good (text_of big (take n bytes)) ∙ text_of-Encodes big front (take n bytes) e,
    split_tail-incomplete big bytes n wrong at,
  )

  joined : (front back : List ℕ)
      → (text (front ++ back) ≡ text front ++ text (split_tail big front ++ back)) × (split_tail big (front ++ back) ≡ split_tail big (split_tail big front ++ back))
  joined front back = (
    ap lossy_chars (split_items-append big front back) ∙ map-append lossy_char (split_items big front) (split_items big (split_tail big front ++ back)),
    split_tail-append big front back,
  )

  parted : (front back : List ℕ) → AreBytes (front ++ back) → AreBytes front × AreBytes (split_tail big front ++ back)
  parted front back are =
      let first = subst AreBytes (take_at front back (length front) refl) (AreBytes-take (length front) (front ++ back) are) in
      let items = items_bytes big (split_items big front) in
      let joined : items ++ (split_tail big front ++ back) ≡ front ++ back =
      sym (append_assoc items (split_tail big front) back) ∙ ap (λ b. b ++ back) (Split-computed big front first).spelled in
      let rest = AreBytes-drop (length items) (front ++ back) are in
      (first, subst AreBytes (ap (drop (length items)) (sym joined) ∙ drop_at items (split_tail big front ++ back) (length items) refl) rest)

  abbrev pub IsSplitOf : Type 0
  IsSplitOf = SplitAtErrors (utf16_coding big) AreBytes text (split_tail big)

  -- the split of UTF-16 is what a reader gets
  pub splits : IsSplitOf
  splits = record {
    nothing = record { scalars = All-nil IsScalar; spelled = encode-nil big };
    whole = whole;
    fault = fault;
    some = λ bytes n len e. omega (arith, e.1.at_front.0);
    cut = cut;
    decides = decided big;
    joined = joined;
    dropped = AreBytes-drop;
    parted = parted;
  }

  pub utf16_recipe : (bytes : List ℕ) → AreBytes bytes → RecipeOf (utf16_coding big) bytes (text bytes) (split_tail big bytes)
  utf16_recipe = split_of_recipe (utf16_coding big) AreBytes text (split_tail big) splits
