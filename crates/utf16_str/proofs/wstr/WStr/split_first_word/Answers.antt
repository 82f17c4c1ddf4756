use Rattle.std.proofs.Common.{◌∷◌, ◌∙◌, ap, ap₂, rules, sym}
use Rattle.utf16_str.specs.Substrings.{words_by}
use Rattle.utf16_str.specs.WStr.{wstr_text}
use Rattle.utf16_str.proofs.PredicateCuts.{cut-end}
use Rattle.utf16_str.proofs.WordLemmas.{first-cut, first-none, first-only, first-some}
use Rattle.utf16_str.proofs.wstr.WStr.split_first_word.Goals as goal

pub returns-in-Some-clause-some : goal.returns-in-Some-clause-some
returns-in-Some-clause-some g c some = first-cut g.S.Space.is_space _ (λ d b says. search rules) (wstr_text c.args.self) _ c.trim_start_by-trimmed.ensures.text _ _ c.in-Some.ensures

pub returns-in-Some-clause-none : goal.returns-in-Some-clause-none
returns-in-Some-clause-none g c none =
    absurd (first-some g.S.Space.is_space _ (λ d b says. search rules) (wstr_text c.args.self) _ c.trim_start_by-trimmed.ensures.text _ _ c.in-Some.ensures none)

pub returns-in-None-clause-some : goal.returns-in-None-clause-some
returns-in-None-clause-some g c some =
    let is = cut-end _ _ _ _ c.len.ensures.size c.split_at.ensures.front c.split_at.ensures.back in
    first-only g.S.Space.is_space _ (λ d b says. search rules) (wstr_text c.args.self) _ c.trim_start_by-trimmed.ensures.text c.in-None.ensures (λ none. some (is.0 ∙ none))
    ∙ ap₂ (λ w r. w ∷ words_by g.S.Space.is_space r) (sym is.0) (sym is.1)

pub returns-in-None-clause-none : goal.returns-in-None-clause-none
returns-in-None-clause-none g c none =
    let is = cut-end _ _ _ _ c.len.ensures.size c.split_at.ensures.front c.split_at.ensures.back in
    (first-none g.S.Space.is_space _ (λ d b says. search rules) (wstr_text c.args.self) _ c.trim_start_by-trimmed.ensures.text (sym is.0 ∙ none), ap (words_by g.S.Space.is_space) is.1)
