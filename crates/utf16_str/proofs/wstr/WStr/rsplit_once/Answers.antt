use Rattle.std.proofs.Common.{◌↔◌, refl, subst, sym}
use Rattle.std.specs.Option.{IsNone}
use Rattle.utf16_str.specs.Substrings.{IsAfterLast, LacksPart}
use Rattle.utf16_str.specs.WStr.{wstr_text}
use Rattle.utf16_str.proofs.FirstLemmas.{after_last, lacks_part, lacks_part-not}
use Rattle.utf16_str.proofs.wstr.WStr.rsplit_once.Goals as goal

pub split_around-requires : goal.split_around-requires
split_around-requires g c = c.in_ok-at.ensures.last.0

pub returns-in_err-at-clause-none : goal.returns-in_err-at-clause-none
returns-in_err-at-clause-none g c =
    subst (λ o. IsNone o ↔ LacksPart (g.P.Pattern.part c.args.delimiter) (wstr_text c.args.self)) (sym c.from_residual.ensures)
    (λ none. lacks_part (g.P.Pattern.part c.args.delimiter) (wstr_text c.args.self) c.in_err-at.ensures.last, λ lacks. refl)

pub returns-clause-none : goal.returns-clause-none
returns-clause-none g c =
    (λ none. absurd (cc none), λ lacks. absurd (lacks_part-not (g.P.Pattern.part c.args.delimiter) (wstr_text c.args.self) _ _ c.split_around.ensures.split lacks))

pub returns-clause-last : goal.returns-clause-last
returns-clause-last g c =
    let part = g.P.Pattern.part c.args.delimiter in
    let text = wstr_text c.args.self in
    subst (IsAfterLast part text) (sym c.split_around.ensures.back) (after_last part text _ c.in_ok-at.ensures.last)
