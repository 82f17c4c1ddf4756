-- The parts that a `WStrSplitWith` gives.
use Rattle.std.specs.Prelude.{◌≡◌, ℕ, ◌+◌, ◌-◌, Bool, true, List, [], ◌∷◌, Option, None, Some, length, map, option_map, reverse, take}
use Rattle.std.specs.Iterator.Runs.{ItemsMapTo, ItemsMapToReversed, Run}
use Rattle.std.specs.List.{slice_split}
use Rattle.utf16_units.specs.Boundary.{text_from, text_to}
use Rattle.utf16_units.specs.Encoding.{size}
use Rattle.utf16_units.specs.declared.byte_order.Utf16Order.{Ghosts}
use Rattle.utf16_str.specs.Predicates.{AnswersBy, GivesLastPart, GivesPart}
use Rattle.utf16_str.specs.WStr.{wstr_text}
use Rattle.utf16_str.specs.declared.split_with.WStrSplitWith.{WStrSplitWith}
use Rattle.utf16_str.specs.declared.wstr.WStr.{WStr}

-- the most parts that are left of a text
abbrev pub most_parts : Option (List ℕ) → ℕ
most_parts None = 0
most_parts (Some text) = length text + 1

-- the offsets in bytes of substrings of a text with one of its characters between each two, if the
-- first one is at `at`
abbrev pub spaced_offsets : List ℕ → ℕ → List (List ℕ) → List ℕ
spaced_offsets text at [] = []
spaced_offsets text at (part ∷ parts) = at ∷ spaced_offsets text (at + size part + size (take 1 (text_from text (at + size part)))) parts

-- the same, if the substrings come from the end and the first one ends at `end`
abbrev pub rspaced_offsets : List ℕ → ℕ → List (List ℕ) → List ℕ
rspaced_offsets text end [] = []
rspaced_offsets text end (part ∷ parts) = (end - size part) ∷ rspaced_offsets text (end - size part - size (take 1 (reverse (text_to text (end - size part))))) parts

module _ {E F : Type 0} {order : Ghosts E} where
  -- the view that is left, or `None` after the last part
  abbrev pub split_rest : WStrSplitWith E F order → Option (WStr E order)
  split_rest it = it.rest

  abbrev pub split_predicate : WStrSplitWith E F order → F
  split_predicate it = it.predicate

  -- a call of `next` gave the next part; the predicate stays
  abbrev pub split_steps : (F → ℕ → Bool → Type 0) → WStrSplitWith E F order → Option (WStr E order) → WStrSplitWith E F order → Type 0
  split_steps post s r t =
      GivesPart (post (split_predicate s)) (option_map wstr_text (split_rest s)) (option_map wstr_text r) (option_map wstr_text (split_rest t))
      × (split_predicate t ≡ split_predicate s)

  -- a call of `next_back` gave the last part; the predicate stays
  abbrev pub split_steps_back : (F → ℕ → Bool → Type 0) → WStrSplitWith E F order → Option (WStr E order) → WStrSplitWith E F order → Type 0
  split_steps_back post s r t =
      GivesLastPart (post (split_predicate s)) (option_map wstr_text (split_rest s)) (option_map wstr_text r) (option_map wstr_text (split_rest t))
      × (split_predicate t ≡ split_predicate s)

-- a run gives the parts that `str::split` gives for a function with the same answers as the
-- predicate: the first ones, and all of them if it ended. The first two members follow from the
-- third; they are there because a caller's proof finds them
abbrev pub SplitsText : {T S : Type 0} {steps : T → Option S → T → Type 0} → Run steps → (S → List ℕ) → (ℕ → Bool → Type 0) → List ℕ → Type 0
SplitsText p text says whole =
    ((k : ℕ → Bool) → AnswersBy says k → p.whole ≡ true → map text p.items ≡ slice_split k whole)
    × ((k : ℕ → Bool) → AnswersBy says k → p.whole ≡ true → p.len ≡ length (slice_split k whole))
    × ((k : ℕ → Bool) → AnswersBy says k → ItemsMapTo p text (slice_split k whole))

-- the same from the back: the last parts, and all of them in reverse if the run ended
abbrev pub SplitsTextBack : {T S : Type 0} {steps : T → Option S → T → Type 0} → Run steps → (S → List ℕ) → (ℕ → Bool → Type 0) → List ℕ → Type 0
SplitsTextBack p text says whole =
    ((k : ℕ → Bool) → AnswersBy says k → p.whole ≡ true → map text p.items ≡ reverse (slice_split k whole))
    × ((k : ℕ → Bool) → AnswersBy says k → ItemsMapToReversed p text (slice_split k whole))
