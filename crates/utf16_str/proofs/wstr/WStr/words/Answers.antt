use Rattle.std.proofs.Common.{arith}
use Rattle.utf16_str.specs.WStr.{wstr_bytes, wstr_text}
use Rattle.utf16_str.proofs.SplitLemmas.{few-parts, text_runs, text_runs_back}
use Rattle.utf16_str.proofs.WordLemmas.{few-words}
use Rattle.utf16_str.proofs.PartWindows.{yields_parts, yields_parts_back}
use Rattle.utf16_str.proofs.WithinLemmas.{placed-words}
use Rattle.utf16_str.proofs.wstr.WStr.words.Goals as goal

pub returns-clause-bound : goal.returns-clause-bound
returns-clause-bound g c =
    few-parts g.E.Utf16Order.BIG (wstr_bytes c.args.self) _ c.args.self.well_formed (omega arith) (omega (arith, few-words g.S.Space.is_space (wstr_text c.args.self)))

pub returns-clause-runs : goal.returns-clause-runs
returns-clause-runs g c = text_runs wstr_text

pub returns-clause-runs_back : goal.returns-clause-runs_back
returns-clause-runs_back g c = text_runs_back wstr_text

pub returns-clause-within : goal.returns-clause-within
returns-clause-within g c = yields_parts c.args.self _ _ (placed-words g.S.Space.is_space (wstr_text c.args.self))

pub returns-clause-within_back : goal.returns-clause-within_back
returns-clause-within_back g c = yields_parts_back c.args.self _ _ (placed-words g.S.Space.is_space (wstr_text c.args.self))
