use Rattle.std.proofs.Common.{◌≡◌, ◌≢◌, [], ◌∙◌, rules, sym}
use Rattle.utf16_str.specs.WStr.{wstr_text}
use Rattle.utf16_str.proofs.SplitLemmas.{progress-part-back}
use Rattle.utf16_str.proofs.words.WStrWordsDoubleEndedIterator.next_back.Goals as goal

pub returns-then-is_empty-clause-steps : goal.returns-then-is_empty-clause-steps
returns-then-is_empty-clause-steps g c =
    let none : wstr_text c.split_last_word.result.1 ≡ [] = search rules in
    let nothing = c.split_last_word.ensures.none none in
    (sym c.self.view_is ∙ nothing.0, nothing.1)

pub returns-clause-steps : goal.returns-clause-steps
returns-clause-steps g c =
    let some : wstr_text c.split_last_word.result.1 ≢ [] = search rules in
    sym c.self.view_is ∙ c.split_last_word.ensures.some some

pub returns-clause-goes : goal.returns-clause-goes
returns-clause-goes g c = progress-part-back _ (λ _. tt) _ _ _ _ (returns-clause-steps g c)
