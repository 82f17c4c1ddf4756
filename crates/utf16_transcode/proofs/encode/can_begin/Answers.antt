use Rattle.std.proofs.Common.{◌≡◌, ℕ, refl, ap₂, ◌∙◌, arith}
use Rattle.std.proofs.lemmas.Bool.Decides.{nat_tests}
use Rattle.std.proofs.lemmas.Grind.{common_steps}
use Rattle.std.specs.Str.Lossy.{second_byte_max, second_byte_min}
use Rattle.utf16_transcode.proofs.encode.can_begin.Goals as goal
use Rattle.utf16_transcode.proofs.encode.can_begin.Goals.{in-224, in-237, in-240, in-244, in_default}

least : (x : ℕ) → ¬ (x ≡ 224) → ¬ (x ≡ 240) → 128 ≡ second_byte_min x
least x p q = grind (arith, nat_tests)

most : (x : ℕ) → ¬ (x ≡ 237) → ¬ (x ≡ 244) → 191 ≡ second_byte_max x
most x p q = grind (arith, nat_tests)

bounds : (c : goal.After-contains-then-contains-3) → c.match-lead.least ≡ (second_byte_min c.args.lead, second_byte_max c.args.lead)
bounds c = elim c.match-lead.branch [
  | in-224 w ↦ w.least-is ∙ rw w.in-224.is refl
  | in-237 w ↦ w.least-is ∙ rw w.in-237.is refl
  | in-240 w ↦ w.least-is ∙ rw w.in-240.is refl
  | in-244 w ↦ w.least-is ∙ rw w.in-244.is refl
  | in_default w ↦ w.least-is ∙ ap₂ (λ (a b : ℕ). (a, b)) (least c.args.lead (λ e. omega arith) (λ e. omega arith)) (most c.args.lead (λ e. omega arith) (λ e. omega arith))
]

pub returns-then-contains-3 : goal.returns-then-contains-3
returns-then-contains-3 c = let bounds = bounds c in grind (arith, common_steps, bounds)
