-- The characters that a loop has passed, all with the same answer, from either end of a text.
use Rattle.std.proofs.Common.{◌≡◌, ℕ, Bool, List, [], ◌∷◌, ◌++◌, sym, ap, ◌∙◌, append_assoc, append-nil, subst}
use Rattle.std.proofs.lemmas.List.Elements.{All-cons, All-nil, All-push}
use Rattle.utf16_str.specs.Predicates.{SaysOfEach}

-- the text is what was passed and the rest
pub record IsPassed (says : ℕ → Bool → Type 0) (b : Bool) (text rest : List ℕ) : Type 0 where
  pub front : List ℕ
  pub split : text ≡ front ++ rest
  pub passed : SaysOfEach says b front

-- the text is the rest and what was passed
pub record IsPassedBack (says : ℕ → Bool → Type 0) (b : Bool) (text rest : List ℕ) : Type 0 where
  pub back : List ℕ
  pub split : text ≡ rest ++ back
  pub passed : SaysOfEach says b back

module _ (says : ℕ → Bool → Type 0) (b : Bool) (text rest : List ℕ) where
  abbrev pub passed-none : rest ≡ text → IsPassed says b text rest
  passed-none is = record { front = []; split = sym is; passed = All-nil (λ c. says c b) }

  abbrev pub passed-more : (c : ℕ) (more : List ℕ) → IsPassed says b text rest → rest ≡ c ∷ more → says c b → IsPassed says b text more
  passed-more c more so_far is says_so = record {
    front = so_far.front ++ c ∷ [];
    split = so_far.split ∙ ap (λ t. so_far.front ++ t) is ∙ sym (append_assoc so_far.front (c ∷ []) more);
    passed = All-push (λ d. says d b) so_far.front c so_far.passed says_so;
  }

  pub passed-all : IsPassed says b text rest → rest ≡ [] → SaysOfEach says b text
  passed-all so_far none =
      subst (SaysOfEach says b) (sym (so_far.split ∙ ap (λ t. so_far.front ++ t) none ∙ append-nil so_far.front)) so_far.passed

  pub passed_back-none : rest ≡ text → IsPassedBack says b text rest
  passed_back-none is = record { back = []; split = sym is ∙ sym (append-nil rest); passed = All-nil (λ c. says c b) }

  pub passed_back-more : (front : List ℕ) (c : ℕ) → IsPassedBack says b text rest → rest ≡ front ++ c ∷ [] → says c b → IsPassedBack says b text front
  passed_back-more front c so_far is says_so = record {
    back = c ∷ so_far.back;
    split = so_far.split ∙ ap (λ t. t ++ so_far.back) is ∙ append_assoc front (c ∷ []) so_far.back;
    passed = All-cons (λ d. says d b) c so_far.back says_so so_far.passed;
  }

  pub passed_back-all : IsPassedBack says b text rest → rest ≡ [] → SaysOfEach says b text
  passed_back-all so_far none = subst (SaysOfEach says b) (sym (so_far.split ∙ ap (λ t. t ++ so_far.back) none)) so_far.passed
