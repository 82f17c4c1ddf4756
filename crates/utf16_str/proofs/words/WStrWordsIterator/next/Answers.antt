use Rattle.std.proofs.Common.{◌≡◌, ◌≢◌, [], ◌∙◌, rules, sym}
use Rattle.utf16_str.specs.WStr.{wstr_text}
use Rattle.utf16_str.proofs.SplitLemmas.{progress-part}
use Rattle.utf16_str.proofs.words.WStrWordsIterator.next.Goals as goal

pub returns-then-is_empty-clause-steps : goal.returns-then-is_empty-clause-steps
returns-then-is_empty-clause-steps g c =
    let none : wstr_text c.split_first_word.result.0 ≡ [] = search rules in
    let nothing = c.split_first_word.ensures.none none in
    (sym c.self.view_is ∙ nothing.0, nothing.1)

pub returns-clause-steps : goal.returns-clause-steps
returns-clause-steps g c =
    let some : wstr_text c.split_first_word.result.0 ≢ [] = search rules in
    sym c.self.view_is ∙ c.split_first_word.ensures.some some

pub returns-clause-goes : goal.returns-clause-goes
returns-clause-goes g c = progress-part _ (λ _. tt) _ _ _ _ (returns-clause-steps g c)
