-- How many code points the lossy text of any bytes has.
use Rattle.std.proofs.Common.{◌≡◌, ◌≢◌, ℕ, ◌+◌, ◌-◌, ◌*◌, ◌/◌, ◌≤◌, Bool, List, [], ◌∷◌, ◌++◌, Option, None, Some, length, map, take, drop, refl, sym, subst, ap, ap₂, ◌∙◌, arith, append-nil, length-append, length-take-le, take-append-drop}
use Rattle.std.proofs.lemmas.List.{drop-drop, length-map}
use Rattle.utf16_units.specs.Split.{Item, good, lone_lead, lone_trail, item_bytes, items_bytes, lossy_char, lossy_chars, lossy_text, split_items, split_tail, whole_lossy_chars}
use Rattle.utf16_units.specs.Encoding.{IsUtf16, text_of}
use Rattle.utf16_units.specs.IllFormed.{IsIllFormed, IsUtf16ValidUpTo}
use Rattle.utf16_units.specs.Utf16Error.{IsErrorOf, error_len, valid_up_to}
use Rattle.utf16_units.specs.declared.error.Utf16Error.{Utf16Error}
use Rattle.utf16_units.proofs.CharLemmas.{char_size_cases, length-char_bytes}
use Rattle.utf16_units.proofs.FirstChar.{AreBytes, first_unit}
use Rattle.utf16_units.proofs.RecipeLemmas.{lossy_chars-good, two}
use Rattle.utf16_units.proofs.SplitIllFormed.{lone_item, split_items-fault, split_items-incomplete, split_tail-fault, split_tail-incomplete}
use Rattle.utf16_transcode.proofs.ToUtf8Parts.{whole_lossy_chars-append}
use Rattle.utf16_units.proofs.SplitLemmas.{Split-computed}
use Rattle.utf16_units.proofs.UnitLemmas.{length-unit_bytes}
use Rattle.utf16_transcode.specs.WholeText.{WritesWhole}
use Rattle.utf16_transcode.specs.Stops.{StopsLossy}
use Rattle.utf16_transcode.specs.declared.progress.Stop.{Stop}
use Rattle.utf16_transcode.specs.declared.progress.Stop.TheVariants.{Done, NoSpace}
use Rattle.utf16_fixed.specs.Utf32.{utf32_units}
use Rattle.utf16_fixed.proofs.LossyLemmas.{units_of_text}

-- each item takes two bytes or more
item-least : (big : Bool) (item : Item) → 2 ≤ length (item_bytes big item)
item-least big (good c) = omega (arith, length-char_bytes big c, char_size_cases c)
item-least big (lone_trail unit) = omega (arith, length-unit_bytes big unit)
item-least big (lone_lead unit) = omega (arith, length-unit_bytes big unit)

items-least : (big : Bool) (items : List Item) → 2 * length items ≤ length (items_bytes big items)
items-least big [] = omega arith
items-least big (item ∷ items) = grind (arith, length-append, item-least, items-least big items)

whole-most : (items : List Item) (tail : List ℕ) → 2 * length (whole_lossy_chars items tail) ≤ 2 * length items + length tail + 1
whole-most items [] = omega (arith, length-map items lossy_char)
whole-most items (first ∷ after) = omega (arith, length-append (lossy_chars items) (0xFFFD ∷ []), length-map items lossy_char)

-- at most one for every two bytes, and one for an odd byte
pub lossy_text-most : (big : Bool) (raw : List ℕ) → AreBytes raw → 2 * length (lossy_text big raw) ≤ length raw + 1
lossy_text-most big raw are =
    let items = split_items big raw in
    let tail = split_tail big raw in
    omega (
      arith,
      whole-most items tail,
      items-least big items,
      sym (length-append (items_bytes big items) tail) ∙ ap length (Split-computed big raw are).spelled,
    )

-- that many code units suffice
pub to_utf32_lossy_fits : (big : Bool) (raw to : List ℕ) (read written : ℕ) (stop : Stop) → AreBytes raw → WritesWhole (lossy_text big) utf32_units raw to read written
    → StopsLossy (lossy_text big) utf32_units (drop read raw) (length to - written) stop → (length raw + 1) / 2 ≤ length to → stop ≡ Done
to_utf32_lossy_fits big raw to read written Done are shows here room = refl
to_utf32_lossy_fits big raw to read written NoSpace are shows here room =
    let all = sym (units_of_text (lossy_text big raw)) ∙ shows.shown ∙ ap (λ t. take written to ++ t) (units_of_text (lossy_text big (drop read raw)) ∙ here.begins) in
    absurd (omega (
      arith,
      room,
      lossy_text-most big raw are,
      ap length all,
      length-append (take written to) (here.char ∷ here.more),
      length-take-le written to shows.fits,
      here.too_long,
    ))
to_utf32_lossy_fits big raw to read written stop are shows here room = absurd here

-- ---- part by part

tail_text-some : (items : List Item) (tail : List ℕ) → tail ≢ [] → whole_lossy_chars items tail ≡ lossy_chars items ++ 0xFFFD ∷ []
tail_text-some items [] some = absurd (some refl)
tail_text-some items (first ∷ after) some = refl

module _ (big : Bool) (rest : List ℕ) (e : Utf16Error) (is : IsErrorOf big rest e) (n : ℕ) (at : n ≡ valid_up_to e) where
  front : IsUtf16ValidUpTo big rest n
  front = subst (IsUtf16ValidUpTo big rest) (sym at) is.front

  text : List ℕ
  text = text_of big (take n rest)

  -- an ill-formed sequence after a text
  pub fault_len : AreBytes rest → (len : ℕ) → error_len e ≡ Some len
      → length (lossy_text big rest) ≡ length (text_of big (take n rest)) + 1 + length (lossy_text big (drop len (drop n rest)))
  unfolding text
  fault_len are len some =
      let found = subst (IsIllFormed big rest) some is.fault in
      let lone = lone_item (first_unit big (drop n rest)) in
      let items = split_items big (drop (n + 2) rest) in
      let tail = split_tail big (drop (n + 2) rest) in
      let next : lossy_text big (drop (n + 2) rest) ≡ lossy_text big (drop len (drop n rest)) =
      ap (λ k. lossy_text big (drop (n + k) rest)) (sym found.at_front.0) ∙ ap (lossy_text big) (sym (drop-drop len n rest)) in
      let all : lossy_text big rest ≡ lossy_chars (map good text) ++ (lossy_char lone ∷ [] ++ lossy_text big (drop len (drop n rest))) =
      ap₂ whole_lossy_chars (split_items-fault big rest n are (two found) front) (split_tail-fault big rest n are (two found) front)
      ∙ whole_lossy_chars-append (map good text) (lone ∷ items) tail
      ∙ ap (λ t. lossy_chars (map good text) ++ t) (whole_lossy_chars-append (lone ∷ []) items tail ∙ ap (λ t. lossy_char lone ∷ t) next) in
      omega (
        arith,
        ap length all,
        length-append (lossy_chars (map good text)) (lossy_char lone ∷ lossy_text big (drop len (drop n rest))),
        ap length (lossy_chars-good text),
      )

  -- an incomplete character after a text
  pub cut_off_len : error_len e ≡ None → length (lossy_text big rest) ≡ length (text_of big (take n rest)) + 1
  unfolding text
  cut_off_len none =
      let found = subst (IsIllFormed big rest) none is.fault in
      let some : drop n rest ≢ [] = λ empty.
      is.fault.ill_formed (subst (IsUtf16 big) (sym (append-nil (take n rest)) ∙ ap (λ t. take n rest ++ t) (sym empty) ∙ take-append-drop n rest) front.valid) in
      let all = ap₂ whole_lossy_chars (split_items-incomplete big rest n found front) (split_tail-incomplete big rest n found front)
      ∙ tail_text-some (map good text) (drop n rest) some in
      omega (arith, ap length all, length-append (lossy_chars (map good text)) (0xFFFD ∷ []), ap length (lossy_chars-good text))

  pub front_len : AreBytes rest → length (text_of big (take n rest)) + 1 ≤ length (lossy_text big rest)
  front_len are = by_len (error_len e) refl where
    by_len : (len : Option ℕ) → error_len e ≡ len → length (text_of big (take n rest)) + 1 ≤ length (lossy_text big rest)
    by_len None none = omega (arith, cut_off_len none)
    by_len (Some len) some = omega (arith, fault_len are len some)
