-- What `replace` and `replacen` make of a text. Matches are found from the front, and do not
-- overlap.
use Rattle.std.specs.Prelude.{ℕ, zero, suc, List, [], ◌∷◌, ◌++◌, Option, None, Some, drop, length, nat_eq, option_map, if◌then◌else◌}
use Rattle.std.specs.List.{starts_with}

-- the text before the first match of a part and the text after that match, if there is one. The
-- part matches where the rest of the text begins with it
unfoldable pub around_match : List ℕ → List ℕ → Option (List ℕ × List ℕ)
around_match part [] = if starts_with nat_eq [] part then Some ([], []) else None
around_match part (c ∷ text) =
    if starts_with nat_eq (c ∷ text) part
    then Some ([], drop (length part) (c ∷ text))
    else option_map (λ around. (c ∷ around.0, around.1)) (around_match part text)

-- the text before a match, the text that replaces it, and what becomes of the text after it.
-- Without a match, the text
abbrev pub put_around : List ℕ → (List ℕ → List ℕ) → List ℕ → Option (List ℕ × List ℕ) → List ℕ
put_around to after text None = text
put_around to after text (Some around) = around.0 ++ (to ++ after around.1)

-- the text with the first `count` matches of a part replaced by another text, or with all if there
-- are fewer. The empty part matches before each character and at the end
unfoldable pub replaced_first : ℕ → List ℕ → List ℕ → List ℕ → List ℕ
replaced_first zero part to text = text
replaced_first (suc count) [] to [] = to
replaced_first (suc count) [] to (c ∷ text) = to ++ (c ∷ replaced_first count [] to text)
replaced_first (suc count) (p ∷ part) to text = put_around to (replaced_first count (p ∷ part) to) text (around_match (p ∷ part) text)

-- the text with each match of a part replaced by another text: the matches are at most one more
-- than the characters
abbrev pub replaced : List ℕ → List ℕ → List ℕ → List ℕ
replaced part to text = replaced_first (suc (length text)) part to text
