-- What a search for a part answers, computed. A part of one character is said in std's words.
use Rattle.std.specs.Prelude.{◌==◌, ◌||◌, ℕ, ◌+◌, Bool, true, false, List, [], ◌∷◌, drop, length, nat_eq, if◌then◌else◌}
use Rattle.std.specs.List.{after_first, before_first, list_any, starts_with}

-- whether a part that is not empty occurs in a text
unfoldable pub occurs : List ℕ → List ℕ → Bool
occurs part [] = false
occurs part (c ∷ text) = starts_with nat_eq (c ∷ text) part || occurs part text

-- the text before the first occurrence of a part that is not empty, or all of it
unfoldable pub text_before : List ℕ → List ℕ → List ℕ
text_before part [] = []
text_before part (c ∷ text) = if starts_with nat_eq (c ∷ text) part then [] else c ∷ text_before part text

-- whether a part occurs in a text; the empty part occurs in each
abbrev pub has_part : List ℕ → List ℕ → Bool
has_part [] text = true
has_part (c ∷ []) text = list_any (λ d. d == c) text
has_part (c ∷ d ∷ part) text = occurs (c ∷ d ∷ part) text

-- the text before the first occurrence of a part, and the text after it
abbrev pub before_part : List ℕ → List ℕ → List ℕ
before_part [] text = []
before_part (c ∷ []) text = before_first (λ d. d == c) text
before_part (c ∷ d ∷ part) text = text_before (c ∷ d ∷ part) text

abbrev pub after_part : List ℕ → List ℕ → List ℕ
after_part [] text = text
after_part (c ∷ []) text = after_first (λ d. d == c) text
after_part (c ∷ d ∷ part) text = drop (length (text_before (c ∷ d ∷ part) text) + length (c ∷ d ∷ part)) text
