use Rattle.utf16_str.specs.WStr.{wstr_text}
use Rattle.utf16_str.proofs.PredicateCuts.{boundary-first, cut-first}
use Rattle.utf16_str.proofs.wstr.WStr.cut_by.Goals as goal

pub cut_at-requires : goal.cut_at-requires
cut_at-requires g c = boundary-first (goal.F-post g c.args.predicate.now) (wstr_text c.args.self) c.in_ok-at.at c.in_ok-at.ensures.found

pub returns : goal.returns
returns g c = cut-first (goal.F-post g c.args.predicate.now) (wstr_text c.args.self) _ _ c.in_ok-at.at c.cut_at.ensures c.in_ok-at.ensures.found
