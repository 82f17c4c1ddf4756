use Rattle.std.proofs.Common.{◌≡◌, ◌∙◌, ◌&&◌, ◌↔◌, ◌%◌, ℕ, Bool, true, false, length, IsTrue, refl, sym, true≢false, arith}
use Rattle.std.proofs.lemmas.Bool.{eq-eqb, eqb-true}
use Rattle.std.specs.Cmp.Derive.{both_true}
use Rattle.utf16_units.proofs.PlainLemmas.{no_surrogate-none, no_surrogate-three, no_surrogate-two}
use Rattle.utf16_units.proofs.plain.is_plain_few.Goals as goal

both : (a b : Bool) → (a && b) ≡ true → (a ≡ true) × (b ≡ true)
both true b e = (refl, e)
both false b e = absurd (true≢false (sym e))

-- both tests, by what each says
and : (a b : Bool) (A B : Type 0) → IsTrue a ↔ A → IsTrue b ↔ B → IsTrue (a && b) ↔ (A × B)
and a b A B first second = ((λ pass. let are = both a b pass in (first.0 are.0, second.0 are.1)), (λ all. both_true (first.1 all.0) (second.1 all.1)))

even : (pass : Bool) (n : ℕ) (A B : Type 0) → n % 2 ≡ 0 → IsTrue pass ↔ A → A ↔ B → IsTrue pass ↔ ((n % 2 ≡ 0) × B)
even pass n A B is_even test all = ((λ is. (is_even, all.0 (test.0 is))), (λ is. test.1 (all.1 is.1)))

pub returns : goal.returns
returns g c = (
  (λ pass.
      let none = eqb-true (length c.args.raw.now) 0 (sym c.is_empty.ensures ∙ pass) in
      (omega (arith, none), no_surrogate-none g.E.Utf16Order.BIG c.args.raw.now none)),
  (λ all. c.is_empty.ensures ∙ eq-eqb (length c.args.raw.now) 0 (omega (arith, c.if-raw-eq4.false, c.if-raw-eq6.false, c.requires.short, c.requires.other, all.0))),
)

pub returns-then-raw-eq4 : goal.returns-then-raw-eq4
returns-then-raw-eq4 g c =
    let first = c.is_no_surrogate.ensures in
    let second = c.is_no_surrogate-then-raw-eq4.ensures in
    even _ _ _ _ (omega arith) (and _ _ _ _ first second) (no_surrogate-two g.E.Utf16Order.BIG c.args.raw.now (omega arith))

pub returns-then-raw-eq6 : goal.returns-then-raw-eq6
returns-then-raw-eq6 g c =
    let first = c.is_no_surrogate-then-raw-eq6.ensures in
    let second = c.is_no_surrogate-then-raw-eq6-2.ensures in
    let third = c.is_no_surrogate-then-raw-eq6-3.ensures in
    even _ _ _ _ (omega arith) (and _ _ _ _ (and _ _ _ _ first second) third) (no_surrogate-three g.E.Utf16Order.BIG c.args.raw.now (omega arith))
