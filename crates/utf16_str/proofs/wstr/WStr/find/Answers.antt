use Rattle.utf16_units.specs.Boundary.{OccursIn}
use Rattle.utf16_bytes.specs.Occurrence.{IsFirst}
use Rattle.utf16_str.specs.WStr.{wstr_text}
use Rattle.utf16_str.proofs.SearchLemmas.{around_first, first_of_part}
use Rattle.utf16_str.proofs.wstr.WStr.find.Given.{Over}
use Rattle.utf16_str.proofs.wstr.WStr.find.Goals as goal
use Rattle.utf16_str.proofs.wstr.WStr.find.Goals.{After-first_in}

in_text : (g : Over) (c : After-first_in g) → IsFirst (λ at. OccursIn (wstr_text c.args.self) at (g.P.Pattern.part c.args.pattern)) c.first_in.result
in_text g c = first_of_part _ _ (g.P.Pattern.part c.args.pattern) _ c.as_bytes.ensures.encoding c.first_in.ensures.scalars c.first_in.result c.first_in.ensures.first

pub returns-clause-first : goal.returns-clause-first
returns-clause-first g c = in_text g (goal.at.returns-clause-first g c).After-first_in

pub returns-clause-around : goal.returns-clause-around
returns-clause-around g c = around_first (wstr_text c.args.self) (g.P.Pattern.part c.args.pattern) c.first_in.result (in_text g (goal.at.returns-clause-around g c).After-first_in)
