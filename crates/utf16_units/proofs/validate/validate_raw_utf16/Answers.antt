use Rattle.std.proofs.Common.{arith, subst, sym}
use Rattle.std.proofs.lemmas.List.{take_rest}
use Rattle.utf16_units.specs.IllFormed.{BeginsWithNoChar, IsIllFormed, IsIllFormedAt, IsUtf16ValidUpTo}
use Rattle.utf16_units.proofs.IllFormedLemmas.{faults, rest_from}
use Rattle.utf16_units.proofs.validate.validate_raw_utf16.Given.{Over}
use Rattle.utf16_units.proofs.validate.validate_raw_utf16.Goals as goal
use Rattle.utf16_units.proofs.validate.validate_raw_utf16.Goals.{After-error_len}

-- an ill-formed sequence, where no character begins
found : (g : Over) (c : After-error_len g) → IsIllFormedAt g.E.Utf16Order.BIG (rest_from c.args.raw.now c.valid_len-valid_up_to.result) c.error_len.result
found g c =
    let at = c.valid_len-valid_up_to in
    c.error_len.ensures (subst (λ rest. BeginsWithNoChar g.E.Utf16Order.BIG rest) (sym (take_rest c.args.raw.now at.result)) (at.ensures.stops (omega (arith, at.ensures.within, c.if-valid_up_to-raw.false))))

pub invariant_of-result : goal.invariant_of-result
invariant_of-result g c = record { one_unit = (found g (goal.at.invariant_of-result g c).After-error_len).2 }

-- it is at the end of the longest valid prefix
error : (g : Over) (c : After-error_len g)
    → IsUtf16ValidUpTo g.E.Utf16Order.BIG c.args.raw.now c.valid_len-valid_up_to.result × IsIllFormed g.E.Utf16Order.BIG c.args.raw.now c.error_len.result
error g c =
    let at = c.valid_len-valid_up_to in
    faults g.E.Utf16Order.BIG c.args.raw.now at.result c.error_len.result (omega (arith, at.ensures.within, c.if-valid_up_to-raw.false)) at.ensures.text (found g c)

pub returns-clause-ok : goal.returns-clause-ok
returns-clause-ok g c =
    let is = error g (goal.at.returns-clause-ok g c).After-error_len in
    (λ ok. cc, λ text. absurd (is.1.ill_formed text))

pub returns-clause-error : goal.returns-clause-error
returns-clause-error g c =
    let is = error g (goal.at.returns-clause-error g c).After-error_len in
    record { front = is.0; fault = is.1 }
