use Rattle.std.proofs.Common.{◌∙◌, rules}
use Rattle.utf16_program.proofs.programs.program.Goals as goal
use Rattle.utf16_program.proofs.programs.program.Goals.{in-Ok, in-Err}

pub returns-clause-ends : goal.returns-clause-ends
returns-clause-ends g c = (
  c.match-job_of.outcome,
  elim c.match-job_of.branch [
    | in-Ok w ↦ search rules
    | in-Err w ↦ search rules
  ],
  (c.from.ensures ∙ c.report.ensures.reports.0, c.report.ensures.reports.1),
)

pub returns-clause-done : goal.returns-clause-done
returns-clause-done g c zero = elim c.match-job_of.branch [
  | in-Ok w ↦ search rules
  | in-Err w ↦ search rules
]
