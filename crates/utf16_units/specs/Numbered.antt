-- Texts numbered 0, 1, 2 and so on, and these numbers sorted by their texts.
use Rattle.std.specs.Prelude.{◌≢◌, ℕ, ◌≤◌, List, [], IsPermutation, length, slice_index_or}
use Rattle.std.specs.List.{AllPairs, AllWithin, range_with_len}
use Rattle.utf16_units.specs.TextOrder.{IsBefore}
use Rattle.utf16_units.specs.Parts.{AreEnds, parts_of}

-- no text occurs twice
abbrev pub AreDistinct : List (List ℕ) → Type 0
AreDistinct texts = AllPairs (λ text other. text ≢ other) texts

-- the text with a number
abbrev pub text_at : List (List ℕ) → ℕ → List ℕ
text_at texts number = slice_index_or texts number []

-- all numbers of texts, each once, sorted by the scalar values of the texts
pub record IsSortOrder (texts : List (List ℕ)) (order : List ℕ) : Type 0 where
  pub numbers : IsPermutation (range_with_len 0 (length texts)) order
  pub ascends : AllPairs (λ number other. IsBefore (text_at texts number) (text_at texts other)) order

-- among the sorted numbers, the numbers before `low` have smaller texts than this one, and the
-- numbers from `high` on have larger ones
pub record IsPlaceWithin (texts : List (List ℕ)) (order text : List ℕ) (low high : ℕ) : Type 0 where
  pub ordered : low ≤ high
  pub within : high ≤ length order
  pub smaller : AllWithin (λ number. IsBefore (text_at texts number) text) order 0 low
  pub larger : AllWithin (λ number. IsBefore text (text_at texts number)) order high (length order)

-- where the number of a new text is inserted: after the numbers of smaller texts, before the
-- numbers of larger ones
abbrev pub IsPlace : List (List ℕ) → List ℕ → List ℕ → ℕ → Type 0
IsPlace texts order text place = IsPlaceWithin texts order text place place

-- a text, the offsets where its parts end, and their sorted numbers: a table of texts, each of
-- which occurs in it once
pub record IsTable (text offsets numbers : List ℕ) : Type 0 where
  pub ends : AreEnds text offsets
  pub distinct : AreDistinct (parts_of text offsets)
  pub order : IsSortOrder (parts_of text offsets) numbers
