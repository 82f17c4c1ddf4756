use Rattle.std.proofs.Common.{subst, sym}
use Rattle.std.proofs.lemmas.Result.{IfOk-weaker}
use Rattle.utf16_units.specs.Encoding.{size}
use Rattle.utf16string.specs.Substrings.{LieAt, offsets_from}
use Rattle.uses_strings.proofs.parts.fields.Goals as goal

pub returns-clause-within : goal.returns-clause-within
unfolding size
returns-clause-within g c =
    IfOk-weaker c.collect.result _ _
    (λ fields runs. let run = runs tt in
    subst (LieAt c.args.line _) (sym run.3.0)
    (subst (λ left. LieAt c.args.line (offsets_from 2 0 left) run.0.items) c.split.ensures.parts (c.split.ensures.within run.0 run.0.seen run.1)))
    c.collect.ensures.runs
