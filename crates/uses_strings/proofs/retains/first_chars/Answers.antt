use Rattle.std.proofs.Common.{rules, ◌≡◌, ◌-◌, ◌∙◌, ℕ, List, [], ◌∷◌, zero, suc, ap, nat_lt, refl, take, true, arith}
use Rattle.std.specs.Prelude.{if◌then◌else◌}
use Rattle.utf16string.proofs.Predicates.{Retains-told, told}
use Rattle.uses_strings.specs.contracts.retains.fn.first_chars.retain as closure
use Rattle.uses_strings.proofs.retains.first_chars.Goals as goal

-- keeping characters while the count is above 0 keeps the first `n`
first : (n : ℕ) (text : List ℕ) → told (λ left c. nat_lt 0 left) (λ left c. left - 1) n text ≡ take n text
unfolding told
first zero [] = refl
first zero (c ∷ text) = first zero text
first (suc n) [] = refl
first (suc n) (c ∷ text) =
    let more : nat_lt 0 (suc n) ≡ true = search rules in
    let less : suc n - 1 ≡ n = omega arith in
    ap (λ b. if b then c ∷ told (λ left c. nat_lt 0 left) (λ left c. left - 1) (suc n - 1) text else told (λ left c. nat_lt 0 left) (λ left c. left - 1) (suc n - 1) text) more
    ∙ ap (λ l. c ∷ l) (ap (λ left. told (λ left c. nat_lt 0 left) (λ left c. left - 1) left text) less ∙ first n text)

pub returns : goal.returns
returns g c =
    Retains-told (λ left d. nat_lt 0 left) (λ left d. left - 1) _ (λ f. (closure.captures f).left) (λ f d answer u k. search rules) _ _ _ c.retain.ensures.text
    ∙ first c.args.n _
