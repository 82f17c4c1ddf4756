-- Two texts compared character by character, after a change of each.
use Rattle.std.proofs.Common.{◌≡◌, ◌≢◌, ◌↔◌, ℕ, List, [], ◌∷◌, map, sym, ap, ◌∙◌}

-- whether the texts are the same after the change, as long as it depends on what is left of them
module _ (change : ℕ → ℕ) (Same : Type 0) (ours theirs : List ℕ) (so_far : Same ↔ (map change ours ≡ map change theirs)) where
  pub same-step : (c d : ℕ) (our_rest their_rest : List ℕ) → ours ≡ c ∷ our_rest → theirs ≡ d ∷ their_rest → change c ≡ change d
      → Same ↔ (map change our_rest ≡ map change their_rest)
  same-step c d our_rest their_rest our their alike = (
    λ same.
        let both : change c ∷ map change our_rest ≡ change d ∷ map change their_rest = sym (ap (map change) our) ∙ so_far.0 same ∙ ap (map change) their in
        cc,
    λ rest. so_far.1 (ap (map change) our ∙ (λ i. alike i ∷ rest i) ∙ sym (ap (map change) their)),
  )

  pub differs : (c d : ℕ) (our_rest their_rest : List ℕ) → ours ≡ c ∷ our_rest → theirs ≡ d ∷ their_rest → change c ≢ change d → Same → ⊥
  differs c d our_rest their_rest our their unlike same =
      let both : change c ∷ map change our_rest ≡ change d ∷ map change their_rest = sym (ap (map change) our) ∙ so_far.0 same ∙ ap (map change) their in
      unlike cc

  pub longer : (c : ℕ) (our_rest : List ℕ) → ours ≡ c ∷ our_rest → theirs ≡ [] → Same → ⊥
  longer c our_rest our none same =
      let both : change c ∷ map change our_rest ≡ [] = sym (ap (map change) our) ∙ so_far.0 same ∙ ap (map change) none in
      cc

-- at the start nothing has been read
pub same-start : (change : ℕ → ℕ) (text other ours theirs : List ℕ) → ours ≡ text → theirs ≡ other
    → (map change text ≡ map change other) ↔ (map change ours ≡ map change theirs)
same-start change text other ours theirs our their = (
  λ same. ap (map change) our ∙ same ∙ sym (ap (map change) their),
  λ same. sym (ap (map change) our) ∙ same ∙ ap (map change) their,
)
