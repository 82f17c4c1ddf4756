-- A line of a registry export.
use Rattle.std.specs.Prelude.{◌≡◌, ◌==◌, ℕ, List, [], ◌∷◌}
use Rattle.std.specs.List.{slice_split}

-- the line is `"name"="value"`: split at its quotes, it is the empty text, the name, an equals
-- sign, the value and the empty text
abbrev pub IsLine : List ℕ → List ℕ → List ℕ → Type 0
IsLine line name value = slice_split (λ c. c == 0x22) line ≡ [] ∷ name ∷ (0x3D ∷ []) ∷ value ∷ [] ∷ []
