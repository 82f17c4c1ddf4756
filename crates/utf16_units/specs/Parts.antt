-- A text split into consecutive parts. Offsets are in bytes.
use Rattle.std.specs.Prelude.{◌≡◌, ℕ, ◌≤◌, List, [], ◌∷◌}
use Rattle.utf16_units.specs.Boundary.{IsBoundary, text_between}
use Rattle.utf16_units.specs.Encoding.{size}

-- the parts of a text that end at these offsets, where the first part begins at `start`
unfoldable pub parts_from : List ℕ → ℕ → List ℕ → List (List ℕ)
parts_from text start [] = []
parts_from text start (end ∷ ends) = text_between text start end ∷ parts_from text end ends

-- the parts of a text that end at these offsets
abbrev pub parts_of : List ℕ → List ℕ → List (List ℕ)
parts_of text ends = parts_from text 0 ends

-- the ends ascend from an offset to the end of the text, each at a boundary
unfoldable pub AreEndsFrom : List ℕ → ℕ → List ℕ → Type 0
AreEndsFrom text start [] = start ≡ size text
AreEndsFrom text start (end ∷ ends) = (start ≤ end) × IsBoundary text end × AreEndsFrom text end ends

-- the ends split the whole text into parts
pub record AreEnds (text ends : List ℕ) : Type 0 where
  pub ascend : AreEndsFrom text 0 ends
