-- Texts that each end with a delimiter, concatenated, and the list that a reader gets of any text.
use Rattle.std.specs.Prelude.{◌≡◌, ◌≢◌, ◌==◌, ℕ, List, [], ◌∷◌, ◌++◌, All}
use Rattle.std.specs.List.{flat_map, slice_split}

-- a text does not contain the delimiter
abbrev pub Lacks : ℕ → List ℕ → Type 0
Lacks delimiter text = All (λ c. c ≢ delimiter) text

-- a text may be in a list: it is not empty, and does not contain the delimiter
abbrev pub IsEntry : ℕ → List ℕ → Type 0
IsEntry delimiter text = (text ≢ []) × Lacks delimiter text

-- texts, each followed by the delimiter
abbrev pub ended : ℕ → List (List ℕ) → List ℕ
ended delimiter texts = flat_map (λ text. text ++ delimiter ∷ []) texts

-- the list of texts: one more delimiter ends it
abbrev pub closed : ℕ → List (List ℕ) → List ℕ
closed delimiter texts = ended delimiter texts ++ delimiter ∷ []

-- the texts before the first empty one
unfoldable pub before_empty : List (List ℕ) → List (List ℕ)
before_empty [] = []
before_empty ([] ∷ texts) = []
before_empty ((c ∷ text) ∷ texts) = (c ∷ text) ∷ before_empty texts

-- what a reader gets of any text: it is split at each delimiter, and ends at the first empty text,
-- or at the end of the text
unfoldable pub listed : ℕ → List ℕ → List (List ℕ)
listed delimiter text = before_empty (slice_split (λ c. c == delimiter) text)

-- the texts are those that a list begins with, whose last one or two delimiters may be missing:
-- each may be in a list, and with two delimiters appended the text begins with the list of them
pub record IsListBegun (delimiter : ℕ) (text : List ℕ) (texts : List (List ℕ)) : Type 0 where
  pub entries : All (IsEntry delimiter) texts
  pub behind : List ℕ
  pub begins : closed delimiter texts ++ behind ≡ text ++ delimiter ∷ delimiter ∷ []
