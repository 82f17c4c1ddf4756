-- The ordering of texts by their scalar values. It is also the ordering of their bytes in UTF-8 and
-- UTF-32.
use Rattle.std.specs.Prelude.{◌≡◌, ℕ, ◌<◌, ⊤, List, [], ◌∷◌, ◌++◌}

-- the rest of one text goes before the rest of another, decided by the first character: the empty
-- rest before any other, else the one with the smaller character
abbrev pub GoesFirst : List ℕ → List ℕ → Type 0
GoesFirst rest [] = ⊥
GoesFirst [] (d ∷ other) = ⊤
GoesFirst (c ∷ rest) (d ∷ other) = c < d

-- a text is before another: after a common prefix its rest goes first (Unicode, section 5.17: code
-- point order)
pub record IsBefore (text other : List ℕ) : Type 0 where
  pub common : List ℕ
  pub rest : List ℕ
  pub other_rest : List ℕ
  pub text_is : text ≡ common ++ rest
  pub other_is : other ≡ common ++ other_rest
  pub first : GoesFirst rest other_rest
