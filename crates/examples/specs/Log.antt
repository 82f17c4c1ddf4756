-- The lines of a text that contain another text.
use Rattle.std.specs.Prelude.{ℕ, List, filter, map, zip}
use Rattle.std.specs.Char.{to_ascii_lowercase}
use Rattle.std.specs.List.{enumerate_from}
use Rattle.utf16_units.specs.declared.byte_order.Utf16Order.{Ghosts}
use Rattle.utf16string.specs.Found.{has_part}
use Rattle.utf16string.specs.WStr.{wstr_text}
use Rattle.examples.specs.declared.log.Case.{Case}
use Rattle.examples.specs.declared.log.Case.TheVariants.{Exact, IgnoreAscii}
use Rattle.examples.specs.declared.log.Match.{Match}

-- what is compared of a text: the text itself, or the text in ASCII lower case
abbrev pub folded : Case → List ℕ → List ℕ
folded Exact text = text
folded IgnoreAscii text = map to_ascii_lowercase text

-- the lines, each with its index, for which the folded line contains a part
abbrev pub matches_in : List ℕ → List (List ℕ) → List (List ℕ) → List (ℕ × List ℕ)
matches_in part lines folded =
    map (λ found. (found.0, found.1.0)) (filter (λ found. has_part part found.1.1) (enumerate_from 0 (zip lines folded)))

module _ {E : Type 0} {order : Ghosts E} where
  -- a match's index and the text of its line
  abbrev pub match_parts : Match E order → ℕ × List ℕ
  match_parts found = (found.index, wstr_text found.line)
