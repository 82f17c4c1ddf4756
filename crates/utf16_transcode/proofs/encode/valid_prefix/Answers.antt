use Rattle.std.proofs.Common.{◌<◌, ◌≤◌, arith, ⊎_elim}
use Rattle.std.proofs.lemmas.Bool.{cases_lt}
use Rattle.utf16_transcode.proofs.encode.valid_prefix.Goals as goal

pub returns-in-Err-clause-longest : goal.returns-in-Err-clause-longest
returns-in-Err-clause-longest c = λ n most text. ⊎_elim
    (λ (past : c.valid_up_to.result < n). absurd (c.in-Err.ensures.cases.1.longest n (omega (arith, past, c.valid_up_to.ensures)) text))
    (λ (up : n ≤ c.valid_up_to.result). up)
    (cases_lt c.valid_up_to.result n)
