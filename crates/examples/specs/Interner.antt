-- A table of names, in which each name occurs once and has one of the numbers 0, 1, 2 and so on.
use Rattle.std.specs.Prelude.{◌≡◌, ◌≢◌, ℕ, List, [], ◌∷◌, ◌++◌, All, Some, slice_get, length, ◌⊎◌}
use Rattle.utf16_units.specs.declared.byte_order.Utf16Order.{Ghosts}
use Rattle.utf16_units.specs.Numbered.{IsPlaceWithin}
use Rattle.utf16_units.specs.Parts.{parts_of}
use Rattle.utf16string.specs.WStr.{wstr_text}
use Rattle.utf16string.specs.WString.{wstring_text}
use Rattle.utf16string.specs.declared.WStr.{WStr}
use Rattle.utf16string.specs.declared.wstring.WString.{WString}

-- a name has the number: either it had the number before, and nothing has changed; or no name was
-- equal to it, and it was added at the end
abbrev pub IsInterned : List (List ℕ) → List ℕ → ℕ → List (List ℕ) → Type 0
IsInterned old name number new =
    ((slice_get old number ≡ Some name) × (new ≡ old)) ⊎ (All (λ other. other ≢ name) old × (number ≡ length old) × (new ≡ old ++ name ∷ []))

module _ {E Z : Type 0} {order : Ghosts E} where
  -- among the names of a string that is split at `ends`, a name's place is from `low` to `high`
  abbrev pub IsSought : WString E Z order → List ℕ → List ℕ → WStr E order → ℕ → ℕ → Type 0
  IsSought string ends numbers name low high = IsPlaceWithin (parts_of (wstring_text string) ends) numbers (wstr_text name) low high
