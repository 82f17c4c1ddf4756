use Rattle.std.proofs.Common.{◌≡◌, ◌∙◌, Some, ap, option_map, rules}
use Rattle.utf16_str.specs.Matches.{left_text}
use Rattle.utf16_str.specs.WStr.{wstr_text}
use Rattle.utf16_str.proofs.remaining.Remaining.next_part.Goals as goal

pub returns-clause-joined : goal.returns-clause-joined
returns-clause-joined g c =
    let rest : c.args.self.now.rest ≡ Some c.in_ok-text.text = search rules in
    ap (λ o. left_text (option_map wstr_text o)) rest ∙ c.in-Some.ensures.joined
