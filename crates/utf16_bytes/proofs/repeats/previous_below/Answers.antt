use Rattle.std.proofs.Common.{⊎_elim, ◌-◌, ◌<◌, ◌≤◌, arith}
use Rattle.std.proofs.lemmas.Bool.{cases_lt}
use Rattle.utf16_bytes.proofs.RunLemmas.{none_in_run_back}
use Rattle.utf16_bytes.proofs.repeats.previous_below.Goals as goal

pub returns-clause-none : goal.returns-clause-none
returns-clause-none c big pattern long known i not_below = ⊎_elim
    (λ (far : i < c.args.at).
    let run = c.repeats_from-start in
    none_in_run_back big c.args.text.now pattern c.args.at (c.args.last - c.args.at) (omega arith) run.result (omega (arith, long))
    (λ k after before. run.ensures.same k after (omega (arith, long, before))) known i (omega (arith, not_below, far)))
    (λ (near : c.args.at ≤ i). known i near)
    (cases_lt i c.args.at)
