-- The negation of a test.
use Rattle.std.proofs.Common.{◌↔◌, Bool, true, false, not, IsTrue, refl, sym, true≢false}

-- the negation of a test for what excludes a fact is a test for the fact
pub not_decides : {P Q : Type 0} (d : Bool) → (IsTrue d ↔ Q) → (P ↔ ¬ Q) → (IsTrue (not d) ↔ P)
not_decides true decides apart = (λ no. absurd (true≢false (sym no)), λ p. absurd (apart.0 p (decides.0 refl)))
not_decides false decides apart = (λ yes. apart.1 (λ q. true≢false (sym (decides.1 q))), λ p. refl)
