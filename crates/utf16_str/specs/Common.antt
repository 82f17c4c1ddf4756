-- What a text begins with, and the longest common prefix of two texts, or of many.
use Rattle.std.specs.Prelude.{◌≡◌, ◌↔◌, ℕ, List, ◌∷◌, ◌++◌, All}

-- the text begins with a part
abbrev pub Begins : List ℕ → List ℕ → Type 0
Begins part text = (rest : List ℕ) × (text ≡ part ++ rest)

-- the longest common prefix: what follows it does not start with the same character in both
pub record IsCommonPrefix (text other prefix : List ℕ) : Type 0 where
  pub rest : List ℕ
  pub other_rest : List ℕ
  pub begins : text ≡ prefix ++ rest
  pub other_begins : other ≡ prefix ++ other_rest
  pub differ : (c : ℕ) (more other_more : List ℕ) → rest ≡ c ∷ more → ¬ (other_rest ≡ c ∷ other_more)

-- the longest common prefix of a text and others: it begins with exactly the parts that all of them
-- begin with
pub record IsLongestPrefix (first : List ℕ) (others : List (List ℕ)) (prefix : List ℕ) : Type 0 where
  pub begins : (part : List ℕ) → (Begins part prefix ↔ (Begins part first × All (Begins part) others))
