-- What was written up to a leading surrogate, which is the last unit that was read.
use Rattle.std.proofs.Common.{◌≡◌, ◌%◌, ℕ, ◌+◌, ◌-◌, ◌≤◌, Bool, true, false, List, [], ◌∷◌, ◌++◌, length, map, take, drop, slice_index, refl, sym, ap, ap₂, ◌∙◌, subst, arith, append-nil, Fits, w8, drop_at, length-append, length-drop, length-take-le, take_at, take-take}
use Rattle.std.proofs.lemmas.List.{drop-drop, length-map, map-append}
use Rattle.std.specs.Char.Utf16.{is_high_surrogate, is_low_surrogate}
use Rattle.utf16_units.specs.Encoding.{IsUtf16, units_of, utf8_of}
use Rattle.utf16_units.specs.Lanes.{BlocksStopAt, Paired, PairedTo}
use Rattle.utf16_units.specs.Unit.{unit_of}
use Rattle.utf16_units.proofs.PairLemmas.{PairedTo-some, PairedTo-text_before, is_of}
use Rattle.utf16_units.proofs.UnitsUpTo.{units_of-next}
use Rattle.utf16_to_utf8.specs.Cursor.{Reached}
use Rattle.utf16_to_utf8.specs.Utf8.{unit_utf8, units_utf8}
use Rattle.utf16_to_utf8.specs.declared.runs.Cursor.{Cursor}
use Rattle.utf16_to_utf8.proofs.ListLemmas.{units-cons, units-nil}
use Rattle.utf16_to_utf8.proofs.PlainLemmas.{units-after, written-units}
use Rattle.utf16_to_utf8.proofs.TextLemmas.{bytes-utf8}
use Rattle.utf16_to_utf8.proofs.UnitLemmas.{unit-leading}

abbrev head_bit : List Bool → Bool
head_bit [] = false
head_bit (b ∷ bits) = b

last-bit : (xs ys : List Bool) (a b : Bool) → length xs ≡ length ys → xs ++ a ∷ [] ≡ ys ++ b ∷ [] → a ≡ b
last-bit xs ys a b long e =
    ap head_bit (sym (drop_at xs (a ∷ []) (length xs) refl) ∙ ap (drop (length xs)) e ∙ drop_at ys (b ∷ []) (length xs) (sym long))

-- whether the last of paired units is leading
last-leading : (before after : Bool) (units : List ℕ) (unit : ℕ) → Paired before (units ++ unit ∷ []) after → after ≡ is_high_surrogate unit
last-leading before after units unit p =
    last-bit (map is_low_surrogate (units ++ unit ∷ [])) (before ∷ map is_high_surrogate units) after (is_high_surrogate unit)
    (omega (arith, length-map (units ++ unit ∷ []) is_low_surrogate, length-append units (unit ∷ []), length-map units is_high_surrogate))
    (p ∙ ap (λ bits. before ∷ bits) (map-append is_high_surrogate units (unit ∷ [])))

-- if a block and one more unit are paired, the block is paired
pub paired-front : (before after : Bool) (units : List ℕ) (unit : ℕ) → Paired before (units ++ unit ∷ []) after → Paired before units (is_low_surrogate unit)
paired-front before after units unit p =
    let lows = map is_low_surrogate units ++ is_low_surrogate unit ∷ [] in
    let highs = before ∷ map is_high_surrogate units in
    let long : length lows ≡ length highs =
    omega (arith, length-append (map is_low_surrogate units) (is_low_surrogate unit ∷ []), length-map units is_low_surrogate, length-map units is_high_surrogate) in
    sym (take_at lows (after ∷ []) (length lows) refl)
    ∙ ap (take (length lows)) (ap (λ bits. bits ++ after ∷ []) (sym (map-append is_low_surrogate units (unit ∷ []))) ∙ p ∙ ap (λ bits. before ∷ bits) (map-append is_high_surrogate units (unit ∷ [])))
    ∙ take_at highs (is_high_surrogate unit ∷ []) (length lows) (sym long)

one-unit : (big : Bool) (bytes : List ℕ) → length bytes ≡ 2 → (unit : ℕ) × (units_of big bytes ≡ unit ∷ [])
unfolding units_of
one-unit big [] long = absurd (omega (arith, long))
one-unit big (x ∷ []) long = absurd (omega (arith, long))
one-unit big (x ∷ y ∷ []) long = (unit_of big x y, refl)
one-unit big (x ∷ y ∷ z ∷ bytes) long = absurd (omega (arith, long))

two-bytes : (before unit : ℕ) → is_high_surrogate unit ≡ true → length (units_utf8 before (unit ∷ [])) ≡ 2
two-bytes before unit high =
    let bounds = is_of 54 unit high in
    ap length (units-cons before unit [] ∙ ap (λ bs. unit_utf8 before unit ++ bs) (units-nil unit) ∙ append-nil (unit_utf8 before unit)
    ∙ unit-leading before unit (omega (arith, bounds.0)) (omega (arith, bounds.1)))

-- if the next block is not paired, neither are the block and one more unit
pub stops-more : (big : Bool) (raw : List ℕ) (at : ℕ) (leading : Bool) → leading ≡ false → (size : ℕ) → size % 2 ≡ 0 → BlocksStopAt size big raw at leading
    → BlocksStopAt (size + 2) big raw at false
stops-more big raw at leading is size even stops more after p =
    let rest = drop at raw in
    let left = length-drop at raw in
    let next = one-unit big (take 2 (drop size rest)) (length-take-le 2 (drop size rest) (omega (arith, more, left, length-drop size rest))) in
    let all : units_of big (take (size + 2) rest) ≡ units_of big (take size rest) ++ next.0 ∷ [] =
    units_of-next big rest size 2 even (omega (arith, more, left)) ∙ ap (λ us. units_of big (take size rest) ++ us) next.1 in
    let front = paired-front false after (units_of big (take size rest)) next.0 (subst (λ us. Paired false us after) all p) in
    stops (omega (arith, more)) (is_low_surrogate next.0) (subst (λ b. Paired b (units_of big (take size rest)) (is_low_surrogate next.0)) (sym is) front)

module _ (big : Bool) (raw out : List ℕ) (cursor : Cursor) (fit : (k : ℕ) → Fits w8 (slice_index raw k)) (reached : Reached big raw out cursor)
    (after : Bool) (is : after ≡ true) (paired : PairedTo big raw cursor.at after) where
  pub some : 2 ≤ cursor.at
  some = PairedTo-some big raw cursor.at fit after is paired

  pub text : IsUtf16 big (take (cursor.at - 2) raw)
  text = PairedTo-text_before big raw cursor.at fit after is paired

  abbrev units : List ℕ
  units = units_of big (take (cursor.at - 2) raw)

  last : (unit : ℕ) × (units_of big (take 2 (drop (cursor.at - 2) raw)) ≡ unit ∷ [])
  last = one-unit big (take 2 (drop (cursor.at - 2) raw)) (length-take-le 2 (drop (cursor.at - 2) raw) (omega (arith, some, reached.within, length-drop (cursor.at - 2) raw)))

  split : units_of big (take cursor.at raw) ≡ units ++ last.0 ∷ []
  split =
      let same : cursor.at - 2 + 2 ≡ cursor.at = omega (arith, some) in
      ap (λ n. units_of big (take n raw)) (sym same)
      ∙ units_of-next big raw (cursor.at - 2) 2 (omega (arith, some, reached.even)) (omega (arith, some, reached.within))
      ∙ ap (λ us. units ++ us) last.1

  high : is_high_surrogate last.0 ≡ true
  high = sym (last-leading false after units last.0 (subst (λ us. Paired false us after) split paired.paired)) ∙ is

  behind : (before : ℕ) × (units_utf8 0 (units ++ last.0 ∷ []) ≡ units_utf8 0 units ++ units_utf8 before (last.0 ∷ []))
  behind = units-after 0 units (last.0 ∷ [])

  wrote : take cursor.end out ≡ units_utf8 0 units ++ units_utf8 behind.0 (last.0 ∷ [])
  wrote = written-units big raw out cursor fit reached ∙ ap (units_utf8 0) split ∙ behind.1

  size : length (units_utf8 0 units) + 2 ≡ cursor.end
  size =
      sym (ap (λ n. length (units_utf8 0 units) + n) (two-bytes behind.0 last.0 high)) ∙ sym (length-append (units_utf8 0 units) (units_utf8 behind.0 (last.0 ∷ [])))
      ∙ sym (ap length wrote) ∙ length-take-le cursor.end out reached.fits

  pub some_written : 2 ≤ cursor.end
  some_written = omega (arith, size)

  pub before-leading : take (cursor.end - 2) out ≡ utf8_of big (take (cursor.at - 2) raw)
  before-leading =
      let n : cursor.end - 2 ≡ length (units_utf8 0 units) = omega (arith, size) in
      sym (take-take (cursor.end - 2) cursor.end out (omega arith)) ∙ ap₂ take n wrote
      ∙ take_at (units_utf8 0 units) (units_utf8 behind.0 (last.0 ∷ [])) (length (units_utf8 0 units)) refl ∙ bytes-utf8 big (take (cursor.at - 2) raw) text

  -- if blocks stop after the last unit, no block and one more unit can be read from that unit on
  pub stops-before : (size : ℕ) → BlocksStopAt size big raw cursor.at after → BlocksStopAt (size + 2) big raw (cursor.at - 2) false
  stops-before size stops more last_leads p =
      let rest = drop (cursor.at - 2) raw in
      let block = units_of big (take size (drop cursor.at raw)) in
      let one_more : 2 + size ≡ size + 2 = omega arith in
      let here : drop 2 rest ≡ drop cursor.at raw = drop-drop 2 (cursor.at - 2) raw ∙ ap (λ n. drop n raw) (omega (arith, some)) in
      let all : units_of big (take (size + 2) rest) ≡ last.0 ∷ block =
      ap (λ n. units_of big (take n rest)) (sym one_more)
      ∙ units_of-next big rest 2 size refl (omega (arith, more, some, length-drop (cursor.at - 2) raw)) ∙ ap₂ (λ us bs. us ++ units_of big (take size bs)) last.1 here in
      let behind_it : Paired (is_high_surrogate last.0) block last_leads = ap (drop 1) (subst (λ us. Paired false us last_leads) all p) in
      stops (omega (arith, more, some)) last_leads (subst (λ b. Paired b block last_leads) (high ∙ sym is) behind_it)
