use Rattle.std.proofs.Common.{[], ◌∷◌, ◌++◌, ◌∙◌, ap, ap₂, rules, sym}
use Rattle.utf16_units.proofs.BoundaryLemmas.{IsBoundary-start}
use Rattle.utf16_str.specs.Substrings.{words_by}
use Rattle.utf16_str.specs.WStr.{wstr_text}
use Rattle.utf16_str.proofs.PredicateCuts.{cut-start}
use Rattle.utf16_str.proofs.WordLemmas.{last-cut, last-none, last-only, last-some}
use Rattle.utf16_str.proofs.wstr.WStr.split_last_word.Goals as goal

pub split_at-requires : goal.split_at-requires
split_at-requires g c = IsBoundary-start _

pub returns-in-Some-clause-some : goal.returns-in-Some-clause-some
returns-in-Some-clause-some g c some = last-cut g.S.Space.is_space _ (λ d b says. search rules) (wstr_text c.args.self) _ c.trim_end_by-trimmed.ensures.text _ _ c.in-Some.ensures

pub returns-in-Some-clause-none : goal.returns-in-Some-clause-none
returns-in-Some-clause-none g c none =
    absurd (last-some g.S.Space.is_space _ (λ d b says. search rules) (wstr_text c.args.self) _ c.trim_end_by-trimmed.ensures.text _ _ c.in-Some.ensures none)

pub returns-in-None-clause-some : goal.returns-in-None-clause-some
returns-in-None-clause-some g c some =
    let is = cut-start _ _ _ c.split_at.ensures.front c.split_at.ensures.back in
    last-only g.S.Space.is_space _ (λ d b says. search rules) (wstr_text c.args.self) _ c.trim_end_by-trimmed.ensures.text c.in-None.ensures (λ none. some (is.1 ∙ none))
    ∙ ap₂ (λ b w. words_by g.S.Space.is_space b ++ w ∷ []) (sym is.0) (sym is.1)

pub returns-in-None-clause-none : goal.returns-in-None-clause-none
returns-in-None-clause-none g c none =
    let is = cut-start _ _ _ c.split_at.ensures.front c.split_at.ensures.back in
    (last-none g.S.Space.is_space _ (λ d b says. search rules) (wstr_text c.args.self) _ c.trim_end_by-trimmed.ensures.text (sym is.1 ∙ none), ap (words_by g.S.Space.is_space) is.0)
