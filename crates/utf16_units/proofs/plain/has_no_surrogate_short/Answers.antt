use Rattle.std.proofs.Common.{◌≡◌, ◌↔◌, ℕ, Bool, List, IsTrue, subst, sym, refl, ◌∙◌, arith, true≢false}
use Rattle.utf16_units.specs.Lanes.{HasNoSurrogate}
use Rattle.utf16_units.proofs.PlainLemmas.{no_surrogate-ends}
use Rattle.utf16_units.proofs.plain.has_no_surrogate_short.Goals as goal

of_units : {pass : Bool} {units read : List ℕ} → units ≡ read → IsTrue pass ↔ HasNoSurrogate units → IsTrue pass ↔ HasNoSurrogate read
of_units {pass} e test = subst (λ us. IsTrue pass ↔ HasNoSurrogate us) e test

pub returns-then-has_no_surrogate : goal.returns-then-has_no_surrogate
returns-then-has_no_surrogate g c =
    let ends = no_surrogate-ends g.E.Utf16Order.BIG c.args.raw.now 8 c.requires.even refl (omega (arith, c.requires.some)) (omega (arith, c.if-len-lt16.true)) in
    let first = of_units c.units4.ensures.units c.has_no_surrogate.ensures in
    let last = of_units c.units4-then-has_no_surrogate.ensures.units c.has_no_surrogate-then-has_no_surrogate.ensures in
    ((λ pass. ends.0 (first.0 c.if-has_no_surrogate.true, last.0 pass)), (λ all. last.1 (ends.1 all).1))

pub returns-else-has_no_surrogate : goal.returns-else-has_no_surrogate
returns-else-has_no_surrogate g c =
    let ends = no_surrogate-ends g.E.Utf16Order.BIG c.args.raw.now 8 c.requires.even refl (omega (arith, c.requires.some)) (omega (arith, c.if-len-lt16.true)) in
    let first = of_units c.units4.ensures.units c.has_no_surrogate.ensures in
    ((λ pass. absurd (true≢false (sym pass ∙ c.if-has_no_surrogate.false))), (λ all. first.1 (ends.1 all).0))

pub returns-then-has_no_surrogate-2 : goal.returns-then-has_no_surrogate-2
returns-then-has_no_surrogate-2 g c =
    let ends = no_surrogate-ends g.E.Utf16Order.BIG c.args.raw.now 16 c.requires.even refl (omega (arith, c.if-len-lt16.false)) (omega (arith, c.if-len-lt32.true)) in
    let first = of_units c.units8.ensures.units c.has_no_surrogate-then-len-lt32.ensures in
    let last = of_units c.units8-then-has_no_surrogate-2.ensures.units c.has_no_surrogate-then-has_no_surrogate-2.ensures in
    ((λ pass. ends.0 (first.0 c.if-has_no_surrogate-2.true, last.0 pass)), (λ all. last.1 (ends.1 all).1))

pub returns-else-has_no_surrogate-2 : goal.returns-else-has_no_surrogate-2
returns-else-has_no_surrogate-2 g c =
    let ends = no_surrogate-ends g.E.Utf16Order.BIG c.args.raw.now 16 c.requires.even refl (omega (arith, c.if-len-lt16.false)) (omega (arith, c.if-len-lt32.true)) in
    let first = of_units c.units8.ensures.units c.has_no_surrogate-then-len-lt32.ensures in
    ((λ pass. absurd (true≢false (sym pass ∙ c.if-has_no_surrogate-2.false))), (λ all. first.1 (ends.1 all).0))

pub returns-then-has_no_surrogate-3 : goal.returns-then-has_no_surrogate-3
returns-then-has_no_surrogate-3 g c =
    let ends = no_surrogate-ends g.E.Utf16Order.BIG c.args.raw.now 32 c.requires.even refl (omega (arith, c.if-len-lt32.false)) (omega (arith, c.requires.short)) in
    let first = of_units c.units16.ensures.units c.has_no_surrogate-else-len-lt32.ensures in
    let last = of_units c.units16-then-has_no_surrogate-3.ensures.units c.has_no_surrogate-then-has_no_surrogate-3.ensures in
    ((λ pass. ends.0 (first.0 c.if-has_no_surrogate-3.true, last.0 pass)), (λ all. last.1 (ends.1 all).1))

pub returns-else-has_no_surrogate-3 : goal.returns-else-has_no_surrogate-3
returns-else-has_no_surrogate-3 g c =
    let ends = no_surrogate-ends g.E.Utf16Order.BIG c.args.raw.now 32 c.requires.even refl (omega (arith, c.if-len-lt32.false)) (omega (arith, c.requires.short)) in
    let first = of_units c.units16.ensures.units c.has_no_surrogate-else-len-lt32.ensures in
    ((λ pass. absurd (true≢false (sym pass ∙ c.if-has_no_surrogate-3.false))), (λ all. first.1 (ends.1 all).0))
