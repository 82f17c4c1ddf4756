use Rattle.std.proofs.Common.{inr, refl, rules}
use Rattle.utf16_tools.proofs.Steps.{Step-cut, Step-popped}
use Rattle.utf16_tools.proofs.edit.apply.Goals as goal

pub returns-then-not-is_possible-clause-step : goal.returns-then-not-is_possible-clause-step
returns-then-not-is_possible-clause-step g c = inr (inr (λ p. let t = c.if-not-is_possible.ensures.1 p in absurd cc, refl, refl))

pub returns-in-Pop-clause-step : goal.returns-in-Pop-clause-step
returns-in-Pop-clause-step g c = Step-popped _ _ _ _ _ c.in-Pop.is c.pop.ensures.some c.pop.ensures.text c.taken_off.ensures.some c.taken_off.ensures.none

pub returns-in-Truncate-clause-step : goal.returns-in-Truncate-clause-step
returns-in-Truncate-clause-step g c = Step-cut _ _ _ _ c.in-Truncate.is (c.if-not-is_possible.ensures.0 refl) c.truncate.ensures.cut c.truncate.ensures.past

pub returns-in-Clear-clause-stays : goal.returns-in-Clear-clause-stays
returns-in-Clear-clause-stays g c = inr c.clear.ensures.capacity

pub returns-in-PushText-clause-succeeds : goal.returns-in-PushText-clause-succeeds
returns-in-PushText-clause-succeeds g c room = search rules

pub returns-then-not-is_possible-clause-unchanged : goal.returns-then-not-is_possible-clause-unchanged
returns-then-not-is_possible-clause-unchanged g c e = (refl, refl)

pub returns-then-not-is_possible-clause-stays : goal.returns-then-not-is_possible-clause-stays
returns-then-not-is_possible-clause-stays g c = inr refl

pub returns-then-not-is_possible-clause-succeeds : goal.returns-then-not-is_possible-clause-succeeds
returns-then-not-is_possible-clause-succeeds g c room missing = absurd cc
