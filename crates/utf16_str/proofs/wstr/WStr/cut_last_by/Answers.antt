use Rattle.utf16_str.specs.WStr.{wstr_text}
use Rattle.utf16_str.proofs.PredicateCuts.{boundary-last, cut-last}
use Rattle.utf16_str.proofs.wstr.WStr.cut_last_by.Goals as goal

pub cut_at-requires : goal.cut_at-requires
cut_at-requires g c = boundary-last (goal.F-post g c.args.predicate.now) (wstr_text c.args.self) c.in_ok-at.at c.in_ok-at.ensures.found

pub returns : goal.returns
returns g c = cut-last (goal.F-post g c.args.predicate.now) (wstr_text c.args.self) _ _ c.in_ok-at.at c.cut_at.ensures c.in_ok-at.ensures.found
