-- The next item from the back of an iterator over substrings between occurrences of a character.
use Rattle.std.proofs.Common.{◌≡◌, ℕ, Bool, true, false, List, [], ◌∷◌, ◌++◌, Option, None, Some, ap, reverse, refl, sym, ◌∙◌}
use Rattle.std.proofs.lemmas.List.{reverse-append, reverse-reverse}
use Rattle.utf16_str.specs.Substrings.{parts_left}

module _ (c : ℕ) where
  -- from the end they come in reverse
  both : (begun : Bool) (rest : Option (List ℕ)) → parts_left true (c ∷ []) begun rest ≡ reverse (parts_left false (c ∷ []) begun rest)
  both begun None = refl
  both begun (Some text) = refl

  turned : (begun : Bool) (rest : Option (List ℕ)) → parts_left false (c ∷ []) begun rest ≡ reverse (parts_left true (c ∷ []) begun rest)
  turned begun rest = sym (reverse-reverse (parts_left false (c ∷ []) begun rest)) ∙ ap reverse (sym (both begun rest))

  pub back-some : (begun later : Bool) (rest before : Option (List ℕ)) (part : List ℕ) → parts_left true (c ∷ []) begun rest ≡ part ∷ parts_left true (c ∷ []) later before
      → parts_left false (c ∷ []) begun rest ≡ parts_left false (c ∷ []) later before ++ part ∷ []
  back-some begun later rest before part is =
      turned begun rest ∙ ap reverse is ∙ reverse-append (part ∷ []) (parts_left true (c ∷ []) later before)
      ∙ ap (λ parts. parts ++ part ∷ []) (sym (turned later before))

  pub back-none : (begun : Bool) (rest : Option (List ℕ)) → parts_left true (c ∷ []) begun rest ≡ [] → parts_left false (c ∷ []) begun rest ≡ []
  back-none begun rest none = turned begun rest ∙ ap reverse none
