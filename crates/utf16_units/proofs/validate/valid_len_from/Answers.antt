use Rattle.std.proofs.Common.{arith, subst}
use Rattle.std.proofs.lemmas.List.{take_rest}
use Rattle.utf16_units.specs.IllFormed.{BeginsWithNoChar}
use Rattle.utf16_units.proofs.IllFormedLemmas.{IsUtf16-step}
use Rattle.utf16_units.proofs.validate.valid_len_from.Goals as goal

pub loop-at-preserved : goal.loop-at-preserved
loop-at-preserved g c =
    let kept = c.loop-at.invariant in
    IsUtf16-step g.E.Utf16Order.BIG c.args.raw.now c.loop-at.at c.in-Ok.len kept.0 kept.1 c.in-Ok.ensures.char

pub returns-in-Err : goal.returns-in-Err
returns-in-Err g c = record {
  within = c.loop-at.invariant.0;
  text = c.loop-at.invariant.1;
  stops = λ more. subst (λ rest. BeginsWithNoChar g.E.Utf16Order.BIG rest) (take_rest c.args.raw.now c.loop-at.at) c.in-Err.ensures.ill_formed.0;
}

pub returns : goal.returns
returns g c = record { within = c.loop-at.invariant.0; text = c.loop-at.invariant.1; stops = λ more. absurd (omega (arith, c.loop-at-test.false)) }
