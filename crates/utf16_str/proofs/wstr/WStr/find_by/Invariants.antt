use Rattle.utf16_str.specs.WStr.{wstr_text}
use Rattle.utf16_str.proofs.PredicateFinds.{IsSearched}
use Rattle.utf16_str.proofs.wstr.WStr.find_by.Given as goal

-- the predicate is false for what was passed
abbrev pub invariant-loop-at : goal.invariant-loop-at
invariant-loop-at g l = IsSearched (goal.F-post g l.predicate) (wstr_text l.fn.self) l.at-iterator
