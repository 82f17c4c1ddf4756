use Rattle.std.proofs.Common.{subst, sym}
use Rattle.std.proofs.iter.runs.Made.{run_of_exit}
use Rattle.utf16string.specs.WString.{Extends}
use Rattle.utf16string.proofs.wstring.WString.extend.Goals as goal

pub returns-clause-runs : goal.returns-clause-runs
returns-clause-runs g c =
    let it = c.into_iter-ch-iterator in
    let run = run_of_exit g.U.IntoIter.Iterator.next_gives it.result c.loop-ch.yielded c.loop-ch.ch-iterator c.loop-ch.yielded_by c.next.new.self c.in-None.ensures.steps in
    (it.result, it.ensures.into_iter_gives, (run.0, run.1, run.2, subst (λ text. Extends c.args.self.now text c.loop-ch.self) (sym run.3.0) c.loop-ch.invariant.0))
