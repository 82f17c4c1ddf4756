use Rattle.std.proofs.Common.{arith, refl}
use Rattle.utf16_str.specs.WStr.{wstr_bytes}
use Rattle.utf16_str.proofs.PredicateSplitRuns.{split_runs, split_runs_back}
use Rattle.utf16_str.proofs.PredicateWithin.{gives_within, gives_within_back}
use Rattle.utf16_str.proofs.SplitLemmas.{few-parts}
use Rattle.utf16_str.proofs.wstr.WStr.split_with.Goals as goal

pub returns-clause-bound : goal.returns-clause-bound
returns-clause-bound g c = few-parts g.E.Utf16Order.BIG (wstr_bytes c.args.self) _ c.args.self.well_formed (omega arith) (omega arith)

pub returns-clause-runs : goal.returns-clause-runs
returns-clause-runs g c = split_runs (goal.F-post g) _ c.args.predicate c.args.self refl refl

pub returns-clause-runs_back : goal.returns-clause-runs_back
returns-clause-runs_back g c = split_runs_back (goal.F-post g) _ c.args.predicate c.args.self refl refl

pub returns-clause-within : goal.returns-clause-within
returns-clause-within g c = gives_within c.args.self (goal.F-post g) _ refl

pub returns-clause-within_back : goal.returns-clause-within_back
returns-clause-within_back g c = gives_within_back c.args.self (goal.F-post g) _ refl
