-- The proofs of the laws, each under its law's name.
use Rattle.std.proofs.Common.{◌≡◌, ◌≢◌, ℕ, ◌+◌, ◌-◌, ◌%◌, ◌<◌, Bool, true, false, not, List, [], ◌∷◌, ◌++◌, length, drop, take, slice_get, All, refl, sym, ap, ap₂, ◌∙◌, subst, arith, append_assoc, length-append, length-drop, take-append-drop, drop_at, flat_map}
use Rattle.std.proofs.lemmas.List.Elements.{All-head}
use Rattle.std.proofs.lemmas.List.{map-append}
use Rattle.std.proofs.lemmas.Str.{chars-encodes}
use Rattle.std.specs.Char.{IsScalar}
use Rattle.std.specs.List.{concat}
use Rattle.std.specs.Char.Escape.{encode_utf16}
use Rattle.utf16_units.specs.Unit.{IsTrailing, unit_bytes}
use Rattle.utf16_units.specs.Encoding.{Encodes, char_bytes, encode, size, text_of}
use Rattle.utf16_units.specs.Boundary.{IsBoundary, OccursIn, text_between, text_from, text_to}
use Rattle.utf16_units.specs.Edit.{insert_at}
use Rattle.utf16_units.specs.Laws.{BoundaryCuts, CutAnywhere, EncodedText, FoundAligned, FoundExactly, InsertThenRemove, ItemsStay, JoinedText, MoreAfter, NoneContinues, RecipeIsSplit, ResumesIsSplit, ShownWithin, SplitExists, SplitExtends, SplitThenPush, SplitUnique, OccursAt, SwappedOrders, TextIsShown, TwoNeverContinues, UniqueText, Utf8Back, swap_bytes}
use Rattle.utf16_units.proofs.PartLemmas.{IsBoundary-append, IsBoundary-even, cut_at, text_between-append, text_between-behind, text_between-whole}
use Rattle.utf16_units.proofs.BoundaryLemmas.{Encodes-between, IsBoundary-at_unit, IsBoundary-end, IsBoundary-start, char_size-pos, size-text_to, text_from-at, text_to-at, text_to-text_from}
use Rattle.utf16_units.proofs.ContinuedLemmas.{none_where, two_never}
use Rattle.utf16_units.proofs.FirstChar.{AreBytes, AreBytes-from_All, first_unit}
use Rattle.utf16_units.proofs.FrontChar.{first_unit-char}
use Rattle.utf16_units.proofs.EncodingLemmas.{All-after, IsUtf16-from_Encodes, all_scalars-from_All, encode-append, encode-cons, encode-nil, length-encode, size-append, size-cons, text_of-Encodes, text_of-encode, text_of-encode_then}
use Rattle.utf16_units.specs.Recipe.{utf16_coding}
use Rattle.utf16_units.specs.Split.{lossy_char, lossy_chars, split_items, split_tail}
use Rattle.utf16_units.proofs.RecipeLemmas.{lossy_chars-good, split_text, splits}
use Rattle.utf16_units.proofs.Resuming.{recipe_is_split as split_by_recipe, resumes_is_split as split_by_resuming}
use Rattle.utf16_units.proofs.ShownLemmas.{split_within}
use Rattle.utf16_units.proofs.SplitLemmas.{Split-computed}
use Rattle.utf16_units.proofs.SplitUnique.{Split-unique}
use Rattle.utf16_units.proofs.SplitJoin.{split_items-front, split_items-append, split_tail-append}

pub unique_text : UniqueText
unique_text big text other scalars others same = sym (text_of-encode big text scalars) ∙ ap (text_of big) same ∙ text_of-encode big other others

pub joined_text : JoinedText
joined_text big front back = encode-append big front back

pub utf8_back : Utf8Back
utf8_back text scalars = chars-encodes text (all_scalars-from_All text scalars)

pub two_never_continues : TwoNeverContinues
two_never_continues big bytes fault = two_never big bytes fault

pub none_continues : NoneContinues
none_continues big bytes n are fault front = none_where big bytes n are fault front

pub split_exists : SplitExists
split_exists big bytes are = Split-computed big bytes (AreBytes-from_All bytes are)

pub split_unique : SplitUnique
split_unique big bytes items others tail other s o =
    let one = Split-unique big bytes items tail s in
    let two = Split-unique big bytes others other o in
    (one.0 ∙ sym two.0, one.1 ∙ sym two.1)

pub split_extends : SplitExtends
split_extends big front back = (split_items-append big front back, split_tail-append big front back)

pub recipe_is_split : RecipeIsSplit
recipe_is_split big bytes text kept all =
    split_by_recipe (utf16_coding big) AreBytes (λ b. lossy_chars (split_items big b)) (split_tail big) (splits big) bytes text kept (AreBytes-from_All bytes all)

pub resumes_is_split : ResumesIsSplit
resumes_is_split big pieces text kept all =
    split_by_resuming (utf16_coding big) AreBytes (λ b. lossy_chars (split_items big b)) (split_tail big) (splits big) pieces text kept (AreBytes-from_All (concat pieces) all)

pub text_is_shown : TextIsShown
text_is_shown big text bytes e =
    let split = split_text big text bytes e in
    (ap lossy_chars split.0 ∙ lossy_chars-good text, split.1)

pub items_stay : ItemsStay
items_stay = split_items-front

pub cut_anywhere : CutAnywhere
cut_anywhere big front back =
    ap lossy_chars (split_items-append big front back) ∙ map-append lossy_char (split_items big front) (split_items big (split_tail big front ++ back))

pub shown_within : ShownWithin
shown_within big bytes all = split_within big bytes (split_items big bytes) (split_tail big bytes) (split_exists big bytes all)

pub split_then_push : SplitThenPush
split_then_push text i b = (size-text_to text i b, text_to-text_from text i)

pub insert_then_remove : InsertThenRemove
insert_then_remove text i c b =
    let front = text_to text i in
    let back = text_from text i in
    let at = size-text_to text i b in
    let before : text_to (insert_at text i (c ∷ [])) i ≡ front = text_to-at front (c ∷ back) i at in
    let after : text_from (insert_at text i (c ∷ [])) i ≡ c ∷ back = text_from-at front (c ∷ back) i at in (
      ap (λ t. slice_get t 0) after,
      ap₂ (λ x y. x ++ drop 1 y) before after ∙ text_to-text_from text i,
    )

-- ---- the two byte orders

swap_bytes-unit : (big : Bool) (unit : ℕ) (bytes : List ℕ) → swap_bytes (unit_bytes big unit ++ bytes) ≡ unit_bytes (not big) unit ++ swap_bytes bytes
unfolding swap_bytes
swap_bytes-unit true unit bytes = refl
swap_bytes-unit false unit bytes = refl

swap_bytes-units : (big : Bool) (units bytes : List ℕ) → swap_bytes (flat_map (unit_bytes big) units ++ bytes) ≡ flat_map (unit_bytes (not big)) units ++ swap_bytes bytes
swap_bytes-units big [] bytes = refl
swap_bytes-units big (unit ∷ units) bytes =
    ap swap_bytes (append_assoc (unit_bytes big unit) (flat_map (unit_bytes big) units) bytes)
    ∙ swap_bytes-unit big unit (flat_map (unit_bytes big) units ++ bytes)
    ∙ ap (λ t. unit_bytes (not big) unit ++ t) (swap_bytes-units big units bytes)
    ∙ sym (append_assoc (unit_bytes (not big) unit) (flat_map (unit_bytes (not big)) units) (swap_bytes bytes))

swap_bytes-nil : swap_bytes [] ≡ []
unfolding swap_bytes
swap_bytes-nil = refl

pub swapped_orders : SwappedOrders
swapped_orders big [] = encode-nil (not big) ∙ sym (ap swap_bytes (encode-nil big) ∙ swap_bytes-nil)
swapped_orders big (c ∷ text) =
    encode-cons (not big) c text ∙ ap (λ t. char_bytes (not big) c ++ t) (swapped_orders big text)
    ∙ sym (ap swap_bytes (encode-cons big c text) ∙ swap_bytes-units big (encode_utf16 c) (encode big text))

-- ---- a match at an even offset

-- no text starts with a trailing surrogate, whatever bytes follow it
text_begins : (big : Bool) (text bytes : List ℕ) → All IsScalar text → text ≢ [] → ¬ (IsTrailing (first_unit big (encode big text ++ bytes)))
text_begins big [] bytes scalars some trailing = absurd (some refl)
text_begins big (c ∷ text) bytes scalars some trailing =
    first_unit-char big c (encode big text ++ bytes) (All-head IsScalar c text scalars)
    (subst (λ t. IsTrailing (first_unit big t)) (ap (λ t. t ++ bytes) (encode-cons big c text) ∙ append_assoc (char_bytes big c) (encode big text) bytes) trailing)

pub size-some : (text : List ℕ) → text ≢ [] → 0 < size text
size-some [] some = absurd (some refl)
size-some (c ∷ text) some = omega (arith, size-cons c text, char_size-pos c)

module _ (big : Bool) (text found : List ℕ) (i : ℕ) (scalars : All IsScalar text) (founds : All IsScalar found) (some : found ≢ [])
    (even : i % 2 ≡ 0) (stands : OccursAt (encode big text) i (encode big found)) where
  tail : List ℕ
  tail = drop (length (encode big found)) (drop i (encode big text))

  split : drop i (encode big text) ≡ encode big found ++ tail
  unfolding tail
  split =
      sym (take-append-drop (length (encode big found)) (drop i (encode big text)))
      ∙ ap (λ t. t ++ drop (length (encode big found)) (drop i (encode big text))) stands

  within : i < size text
  within =
      let whole = length-encode big text in
      let left = length-drop i (encode big text) in
      let long = ap length split ∙ length-append (encode big found) tail in
      let found_long = length-encode big found in
      let pos = size-some found some in
      omega arith

  start : IsBoundary text i
  start = IsBoundary-at_unit big text i scalars even within
      (λ trailing. text_begins big found tail founds some (subst (λ t. IsTrailing (first_unit big t)) split trailing))

  back : List ℕ
  back = start.back

  -- the text from i on is the one that was found, followed by a text
  back_is : back ≡ found ++ text_of big tail
  unfolding back
  back_is =
      let whole : encode big text ≡ encode big start.front ++ encode big start.back = ap (encode big) (sym start.split) ∙ encode-append big start.front start.back in
      let rest : drop i (encode big text) ≡ encode big start.back =
      ap (drop i) whole ∙ drop_at (encode big start.front) (encode big start.back) i (length-encode big start.front ∙ start.offset) in
      let rest_scalars = All-after start.front start.back (subst (All IsScalar) (sym start.split) scalars) in
      sym (text_of-encode big start.back rest_scalars) ∙ ap (text_of big) (sym rest ∙ split) ∙ text_of-encode_then big found tail founds

  end : IsBoundary text (i + size found)
  unfolding back
  end = record {
    front = start.front ++ found;
    back = text_of big tail;
    split = append_assoc start.front found (text_of big tail) ∙ ap (λ t. start.front ++ t) (sym back_is) ∙ start.split;
    offset = size-append start.front found ∙ ap (λ n. n + size found) start.offset;
  }

  between : text_between text i (i + size found) ≡ found
  unfolding back
  between =
      let from : text_from text i ≡ found ++ text_of big tail =
      ap (λ t. text_from t i) (sym start.split) ∙ text_from-at start.front start.back i start.offset ∙ back_is in
      let cut : size found ≡ i + size found - i = omega arith in
      ap (λ t. text_to t (i + size found - i)) from ∙ text_to-at found (text_of big tail) (i + size found - i) cut

pub found_aligned : FoundAligned
found_aligned big text found i scalars founds some even stands = (
  start big text found i scalars founds some even stands,
  end big text found i scalars founds some even stands,
  between big text found i scalars founds some even stands,
)

-- ---- boundaries, and what is appended to a text

pub boundary_cuts : BoundaryCuts
boundary_cuts text = record { start = IsBoundary-start text; end = IsBoundary-end text; whole = text_between-whole text; cuts = cut_at text }

pub more_after : MoreAfter
more_after text more = record {
  boundary = IsBoundary-append text more;
  part = text_between-append text more;
  front = text_to-at text more (size text) refl;
  back = text_from-at text more (size text) refl;
  behind = text_between-behind text more;
}

pub encoded_text : EncodedText
encoded_text big text bytes e = record {
  well_formed = IsUtf16-from_Encodes big text bytes e;
  spells = text_of-Encodes big text bytes e;
  long = ap length (sym e.spelled) ∙ length-encode big text;
}

-- ---- where a text occurs in another, by its bytes

module _ (big : Bool) (text part bytes part_bytes : List ℕ) (i : ℕ) (e : Encodes big text bytes) (p : Encodes big part part_bytes) where
  found_in : part ≢ [] → i % 2 ≡ 0 → OccursAt bytes i part_bytes → OccursIn text i part
  found_in some even stands =
      let stands_encoded : OccursAt (encode big text) i (encode big part) =
      subst (λ bs. OccursAt bs i (encode big part)) (sym e.spelled) (subst (OccursAt bytes i) (sym p.spelled) stands) in
      let found = found_aligned big text part i e.scalars p.scalars some even stands_encoded in
      record { start = found.0; end = found.1; between = found.2 }

  -- the bytes between the two boundaries are the bytes of the part
  pub at_boundaries : OccursIn text i part → OccursAt bytes i part_bytes
  at_boundaries s =
      let between = Encodes-between big text bytes i (i + size part) e (omega arith) s.start s.end in
      let long : length part_bytes ≡ i + size part - i = omega (arith, ap length (sym p.spelled) ∙ length-encode big part) in
      ap (λ n. take n (drop i bytes)) long ∙ sym between.spelled ∙ ap (encode big) s.between ∙ p.spelled

pub found_exactly : FoundExactly
found_exactly big text part bytes part_bytes i e p some = (
  (λ found. found_in big text part bytes part_bytes i e p some found.0 found.1),
  (λ stands. (IsBoundary-even text i stands.start, at_boundaries big text part bytes part_bytes i e p stands)),
)

-- laws, for the functions that state them
pub ruleset laws = (
  unique_text,
  joined_text,
  utf8_back,
  none_continues,
  split_exists,
  recipe_is_split,
  resumes_is_split,
  items_stay,
  cut_anywhere,
  swapped_orders,
  found_aligned,
)
