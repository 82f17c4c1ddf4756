use Rattle.std.proofs.Common.{subst, true, option_map, ◌≡◌, sym, false, rules, ◌∙◌, ap}
use Rattle.utf16_units.specs.Encoding.{size}
use Rattle.utf16_str.specs.Matches.{limited}
use Rattle.utf16_str.specs.Substrings.{YieldsPartsOf, roffsets_from, rjoined_with, parts_left, rsplit_by}
use Rattle.utf16_str.specs.WStr.{wstr_text}
use Rattle.utf16_str.proofs.MatchLemmas.{length-limited}
use Rattle.utf16_str.proofs.SplitLemmas.{text_runs}
use Rattle.utf16_str.proofs.PartWindows.{yields_parts}
use Rattle.utf16_str.proofs.JoinLemmas.{join-rparts}
use Rattle.utf16_str.proofs.WithinLemmas.{placed-rfirst}
use Rattle.utf16_str.proofs.wstr.WStr.rsplitn.Goals as goal

pub returns-clause-bound : goal.returns-clause-bound
returns-clause-bound g c =
    let part = g.P.Pattern.part c.new.result.pattern in
    length-limited (rjoined_with part) c.args.n (parts_left true part c.new.result.begun (option_map wstr_text c.new.result.rest))

pub returns-clause-runs : goal.returns-clause-runs
returns-clause-runs g c = text_runs wstr_text

pub returns-clause-within : goal.returns-clause-within
returns-clause-within g c =
    let text = wstr_text c.args.self in
    let part = g.P.Pattern.part c.new.result.pattern in
    let parts = parts_left true part c.new.result.begun (option_map wstr_text c.new.result.rest) in
    let left = limited (rjoined_with part) c.args.n parts in
    let made : parts ≡ rsplit_by part text = search rules in
    let same : part ≡ g.P.Pattern.part c.args.delimiter = search rules in
    subst (λ p. YieldsPartsOf c.args.self (roffsets_from (size p) (size text) left) left) same
    (yields_parts c.args.self _ left (placed-rfirst part text parts (sym (ap (rjoined_with part) made ∙ join-rparts part false text)) c.args.n))
