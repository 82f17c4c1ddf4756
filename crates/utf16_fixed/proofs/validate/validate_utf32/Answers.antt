use Rattle.std.proofs.Common.{arith, refl, rules, subst, take_all}
use Rattle.utf16_fixed.specs.Utf32.{IsUtf32}
use Rattle.utf16_fixed.proofs.ValidLemmas.{IsUtf32-one}
use Rattle.utf16_fixed.proofs.validate.validate_utf32.Goals as goal

pub loop-at-preserved : goal.loop-at-preserved
loop-at-preserved c = record {
  within = search rules;
  valid = IsUtf32-one c.args.utf32.now c.loop-at.at c.loop-at-test.true c.loop-at.invariant.valid c.in-Some.ensures.value.0;
}

pub returns-clause-ok : goal.returns-clause-ok
returns-clause-ok c = (
  λ ok. subst IsUtf32 (take_all c.loop-at.at c.args.utf32.now (omega (arith, c.loop-at-test.false))) c.loop-at.invariant.valid,
  λ valid. refl,
)
