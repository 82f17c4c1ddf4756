-- What is left when a trim stops.
use Rattle.std.proofs.Common.{◌≡◌, ℕ, Bool, true, false, List, [], ◌∷◌, ◌++◌, sym, ◌∙◌, subst}
use Rattle.utf16_str.specs.Predicates.{IsTrimmedEndWith, IsTrimmedStartWith}
use Rattle.utf16_str.proofs.AroundLemmas.{no_last, one_end}
use Rattle.utf16_str.proofs.PredicatePassed.{IsPassed, IsPassedBack}

module _ (says : ℕ → Bool → Type 0) (text rest : List ℕ) where
  pub trimmed-stop : (c : ℕ) (more : List ℕ) → IsPassed says true text rest → rest ≡ c ∷ more → says c false → IsTrimmedStartWith says text rest
  trimmed-stop c more so_far is miss = record {
    front = so_far.front;
    split = so_far.split;
    trimmed = so_far.passed;
    stops = λ d tail begins.
        let both : c ∷ more ≡ d ∷ tail = sym is ∙ begins in
        let same : c ≡ d = cc in
        subst (λ x. says x false) same miss;
  }

  pub trimmed-all : IsPassed says true text rest → rest ≡ [] → IsTrimmedStartWith says text rest
  trimmed-all so_far none = record {
    front = so_far.front;
    split = so_far.split;
    trimmed = so_far.passed;
    stops = λ d tail begins. absurd (cc (sym none ∙ begins));
  }

  pub trimmed_back-stop : (front : List ℕ) (c : ℕ) → IsPassedBack says true text rest → rest ≡ front ++ c ∷ [] → says c false → IsTrimmedEndWith says text rest
  trimmed_back-stop front c so_far is miss = record {
    back = so_far.back;
    split = so_far.split;
    trimmed = so_far.passed;
    stops = λ other d ends. subst (λ x. says x false) (one_end front c other d (sym is ∙ ends)) miss;
  }

  pub trimmed_back-all : IsPassedBack says true text rest → rest ≡ [] → IsTrimmedEndWith says text rest
  trimmed_back-all so_far none = record {
    back = so_far.back;
    split = so_far.split;
    trimmed = so_far.passed;
    stops = λ other d ends. absurd (no_last other d (sym none ∙ ends));
  }
