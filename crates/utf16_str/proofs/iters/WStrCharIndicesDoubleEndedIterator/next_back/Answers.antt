use Rattle.std.proofs.Common.{◌+◌, ◌∷◌, ◌++◌, [], ap, sym, ◌∙◌, arith}
use Rattle.utf16_units.proofs.EncodingLemmas.{size-append}
use Rattle.utf16_units.specs.Encoding.{size}
use Rattle.utf16_str.specs.Offsets.{char_offsets}
use Rattle.utf16_str.proofs.OffsetLemmas.{char_offsets-none, char_offsets-push, progress-last}
use Rattle.utf16_str.proofs.iters.WStrCharIndicesDoubleEndedIterator.next_back.Goals as goal

pub overflow_add-result : goal.overflow_add-result
overflow_add-result g c =
    omega (arith, c.self.invariant, ap size c.in-Some.ensures.steps, size-append c.next_back.new.self (c.in-Some.c ∷ []), c.len.ensures.size, ap size c.as_wstr.ensures)

pub invariant_of-self-2 : goal.invariant_of-self-2
invariant_of-self-2 g c =
    omega (arith, c.self.invariant, ap size c.in-Some.ensures.steps, size-append c.next_back.new.self (c.in-Some.c ∷ []))

pub returns-clause-steps : goal.returns-clause-steps
returns-clause-steps g c =
    let offset = c.self.inside.offset in
    let left = c.next_back.new.self in
    sym c.self.view_is ∙ ap (char_offsets offset) c.in-Some.ensures.steps ∙ char_offsets-push offset left c.in-Some.c
    ∙ ap (λ n. char_offsets offset left ++ (offset + n, c.in-Some.c) ∷ []) (sym (c.len.ensures.size ∙ ap size c.as_wstr.ensures))

pub returns-clause-goes : goal.returns-clause-goes
returns-clause-goes g c = progress-last _ (λ _. tt) _ _ _ (returns-clause-steps g c)

pub returns-in_default-clause-steps : goal.returns-in_default-clause-steps
returns-in_default-clause-steps g c = char_offsets-none c.self.inside.offset _ _ _ c.self.view_is c.in_default.ensures.steps
