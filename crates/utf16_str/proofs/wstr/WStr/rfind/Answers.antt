use Rattle.std.proofs.Common.{refl}
use Rattle.utf16_units.specs.Boundary.{OccursIn}
use Rattle.utf16_units.specs.Encoding.{encode}
use Rattle.utf16_bytes.specs.Occurrence.{IsLast}
use Rattle.utf16_str.specs.WStr.{wstr_text}
use Rattle.utf16_str.proofs.SearchLemmas.{around_last, last_in_text}
use Rattle.utf16_str.proofs.wstr.WStr.rfind.Given.{Over}
use Rattle.utf16_str.proofs.wstr.WStr.rfind.Goals as goal
use Rattle.utf16_str.proofs.wstr.WStr.rfind.Goals.{After-last_in}

in_text : (g : Over) (c : After-last_in g) → IsLast (λ at. OccursIn (wstr_text c.args.self) at (g.P.Pattern.part c.args.pattern)) c.last_in.result
in_text g c =
    let big = g.E.Utf16Order.BIG in
    let part = g.P.Pattern.part c.args.pattern in
    last_in_text big (wstr_text c.args.self) part c.as_bytes.result.now (encode big part) c.as_bytes.ensures.encoding
    (record { scalars = c.last_in.ensures.scalars; spelled = refl }) c.last_in.result c.last_in.ensures.last

pub returns-clause-last : goal.returns-clause-last
returns-clause-last g c = in_text g (goal.at.returns-clause-last g c).After-last_in

pub returns-clause-around : goal.returns-clause-around
returns-clause-around g c = around_last (wstr_text c.args.self) (g.P.Pattern.part c.args.pattern) c.last_in.result (in_text g (goal.at.returns-clause-around g c).After-last_in)
