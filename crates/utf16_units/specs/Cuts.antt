-- The parts of bytes in either encoding that are cut at offsets.
use Rattle.std.specs.Prelude.{ℕ, List, [], ◌∷◌, drop}
use Rattle.std.specs.List.{slice_range}

-- those from an offset on: between consecutive offsets, and the last to the end
abbrev pub parts_from : List ℕ → ℕ → List ℕ → List (List ℕ)
parts_from bytes start [] = drop start bytes ∷ []
parts_from bytes start (at ∷ offsets) = slice_range bytes start at ∷ parts_from bytes at offsets

-- all of them, one more than there are offsets
abbrev pub parts : List ℕ → List ℕ → List (List ℕ)
parts bytes offsets = parts_from bytes 0 offsets
