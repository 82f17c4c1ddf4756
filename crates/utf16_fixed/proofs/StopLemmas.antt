-- Why a call stopped, from the rest of the input to the whole input.
use Rattle.std.proofs.Common.{◌≡◌, ℕ, ◌+◌, ◌-◌, ◌*◌, ◌/◌, ◌<◌, ◌≤◌, Bool, List, [], ◌∷◌, ◌++◌, Option, None, Some, length, take, drop, All, refl, take-append-drop, slice_index, ap, ap₂, ◌∙◌, sym, subst, ⊎_elim, arith, get_or-drop, length-append, length-drop}
use Rattle.std.proofs.lemmas.Bool.{cases_lt}
use Rattle.std.proofs.lemmas.List.{take_rest}
use Rattle.utf16_units.specs.Encoding.{Encodes, IsUtf16, text_of}
use Rattle.utf16_units.specs.IllFormed.{IsIllFormedAt}
use Rattle.utf16_units.specs.Unit.{unit_of}
use Rattle.utf16_units.proofs.CharLemmas.{char_size_two, length-char_bytes}
use Rattle.utf16_units.proofs.FirstChar.{first_unit}
use Rattle.utf16_units.proofs.IllFormedLemmas.{faults, rest_from}
use Rattle.utf16_fixed.specs.StopsLatin1.{BeginsWithA, IsAboveLatin1, IsLatin1, StopsLatin1, StopsLatin1Here}
use Rattle.utf16_fixed.specs.declared.latin1_stop.Latin1Stop.{Latin1Stop}
use Rattle.utf16_fixed.specs.declared.latin1_stop.Latin1Stop.TheVariants.{Done, IllFormed, Incomplete, NoSpace, NotLatin1}
use Rattle.utf16_fixed.proofs.CharLemmas.{latin1_unit}
use Rattle.utf16_fixed.specs.Repertoire.{HasAll}
use Rattle.utf16_fixed.specs.declared.repertoire.Repertoire.TheVariants.{Latin1}
use Rattle.utf16_units.proofs.EncodingLemmas.{All-back, IsUtf16-from_Encodes, text_of-append, text_of-char}
use Rattle.std.proofs.lemmas.List.Elements.{All-head}

-- a truncated character has at least one byte
some_incomplete : (big : Bool) (rest : List ℕ) → IsIllFormedAt big rest None → 0 < length rest
some_incomplete big [] here = absurd here.1
some_incomplete big (first ∷ rest) here = omega arith

-- a character of Latin-1 has two
two_bytes : (big : Bool) (rest : List ℕ) → BeginsWithA IsLatin1 big rest → 2 ≤ length rest
two_bytes big rest begins = grind (arith, length-append, length-char_bytes, char_size_two)

-- the next unit, if the buffer is not full, is above 0xFF
abbrev pub IsNextAbove : Bool → List ℕ → List ℕ → ℕ → Type 0
IsNextAbove big raw new n = 2 * n + 2 ≤ length raw → n < length new → 0x100 ≤ unit_of big (slice_index raw (2 * n)) (slice_index raw (2 * n + 1))

module _ (big : Bool) (raw new : List ℕ) (n : ℕ) (within : 2 * n ≤ length raw) (above : IsNextAbove big raw new n) where
  -- before a character of Latin-1 the buffer is full
  pub full_before : BeginsWithA IsLatin1 big (drop (2 * n) raw) → length new ≤ n
  full_before begins = ⊎_elim
      (λ (more : n < length new).
      let long : 2 * n + 2 ≤ length raw = omega (arith, two_bytes big (drop (2 * n) raw) begins, length-drop (2 * n) raw) in
      let same : 2 * n + 0 ≡ 2 * n = omega arith in
      let here : first_unit big (drop (2 * n) raw) ≡ unit_of big (slice_index raw (2 * n)) (slice_index raw (2 * n + 1)) =
      ap₂ (unit_of big) (get_or-drop (2 * n) raw 0 0 ∙ ap (slice_index raw) same) (get_or-drop (2 * n) raw 1 0) in
      absurd (omega (arith, above long more, latin1_unit big (drop (2 * n) raw) begins, here)))
      (λ (full : length new ≤ n). full)
      (cases_lt n (length new))

  there : (error_len : Option ℕ) → IsIllFormedAt big (drop (2 * n) raw) error_len → IsIllFormedAt big (rest_from raw (2 * n)) error_len
  there error_len here = subst (λ rest. IsIllFormedAt big rest error_len) (sym (take_rest raw (2 * n))) here

  pub stops_there : (text : IsUtf16 big (take (2 * n) raw)) (stop : Latin1Stop) → StopsLatin1Here big (drop (2 * n) raw) stop → StopsLatin1 big raw (2 * n) (length new - n) stop
  stops_there text Done here = omega (arith, ap length here, length-drop (2 * n) raw)
  stops_there text (IllFormed len) here = faults big raw (2 * n) (Some len) (omega (arith, here.0, length-drop (2 * n) raw)) text (there (Some len) here.1)
  stops_there text Incomplete here =
      faults big raw (2 * n) None (omega (arith, some_incomplete big (drop (2 * n) raw) here, length-drop (2 * n) raw)) text (there None here)
  stops_there text NoSpace here = (omega (arith, full_before here), here)
  stops_there text NotLatin1 here = here

-- a text that Latin-1 has, and a buffer that is large enough: the call stops at the end
module _ (big : Bool) (raw to : List ℕ) (read written : ℕ) (wrote : Encodes big (take written to) (take read raw)) (text : IsUtf16 big raw)
    (all : HasAll Latin1 (text_of big raw)) where
  not_above : ¬ BeginsWithA IsAboveLatin1 big (drop read raw)
  not_above begins =
      let front = IsUtf16-from_Encodes big (take written to) (take read raw) wrote in
      let parts : text_of big raw ≡ text_of big (take read raw) ++ begins.char ∷ text_of big begins.more =
      ap (text_of big) (sym (take-append-drop read raw)) ∙ text_of-append big (take read raw) (drop read raw) front
      ∙ ap (λ rest. text_of big (take read raw) ++ rest) (ap (text_of big) begins.begins ∙ text_of-char big begins.char begins.more begins.scalar) in
      let back = All-back IsLatin1 (text_of big (take read raw)) (begins.char ∷ text_of big begins.more) (subst (All IsLatin1) parts all) in
      let low = All-head IsLatin1 begins.char (text_of big begins.more) back in
      let high = begins.kind in
      absurd (omega (arith, low, high))

  pub all_written : (left : ℕ) (stop : Latin1Stop) → read ≡ 2 * written → length raw / 2 ≤ written + left → StopsLatin1 big raw read left stop → stop ≡ Done
  all_written left Done is room stops = refl
  all_written left NoSpace is room stops =
      let full = stops.0 in
      absurd (omega (arith, full, two_bytes big (drop read raw) stops.1, length-drop read raw))
  all_written left NotLatin1 is room stops = absurd (not_above stops)
  all_written left stop is room stops = absurd (stops.1.ill_formed text)
