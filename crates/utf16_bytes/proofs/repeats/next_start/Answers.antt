use Rattle.std.proofs.Common.{⊎_elim, ◌+◌, ◌-◌, ◌<◌, ◌≤◌, arith}
use Rattle.std.proofs.lemmas.Bool.{cases_lt}
use Rattle.utf16_bytes.proofs.RunLemmas.{none_in_run}
use Rattle.utf16_bytes.proofs.repeats.next_start.Goals as goal

pub returns-then-period-eq0-clause-none : goal.returns-then-period-eq0-clause-none
returns-then-period-eq0-clause-none c big pattern long known i less = known i (omega (arith, less))

pub returns-clause-none : goal.returns-clause-none
returns-clause-none c big pattern long known i less = ⊎_elim
    (λ (near : i < c.args.at + 1). known i (omega (arith, near)))
    (λ (far : c.args.at + 1 ≤ i).
    let run = c.repeats_until-end in
    none_in_run big c.args.text.now pattern c.args.at (c.args.at - c.args.last) (omega arith) run.result (omega arith) run.ensures.within
    (λ k after before. run.ensures.same k (omega arith) before) known i (omega (arith, long, less, far)))
    (cases_lt i (c.args.at + 1))
