use Rattle.std.proofs.Common.{◌+◌, ◌∷◌, ap, sym, ◌∙◌, arith}
use Rattle.utf16_units.proofs.EncodingLemmas.{size-cons}
use Rattle.utf16_units.specs.Encoding.{size}
use Rattle.utf16_str.specs.Offsets.{char_offsets}
use Rattle.utf16_str.proofs.OffsetLemmas.{char_offsets-cons, char_offsets-none, progress-first}
use Rattle.utf16_str.proofs.iters.WStrCharIndicesIterator.next.Goals as goal

pub overflow_add-self : goal.overflow_add-self
overflow_add-self g c =
    omega (arith, c.self.invariant, ap size c.in-Some.ensures.steps, size-cons c.in-Some.c c.next.new.self, c.encoded_utf16_len.ensures)

pub invariant_of-self-2 : goal.invariant_of-self-2
invariant_of-self-2 g c =
    omega (arith, c.self.invariant, ap size c.in-Some.ensures.steps, size-cons c.in-Some.c c.next.new.self, c.encoded_utf16_len.ensures)

pub returns-clause-steps : goal.returns-clause-steps
returns-clause-steps g c =
    let offset = c.self.inside.offset in
    sym c.self.view_is ∙ ap (char_offsets offset) c.in-Some.ensures.steps ∙ char_offsets-cons offset c.in-Some.c c.next.new.self
    ∙ ap (λ n. (offset, c.in-Some.c) ∷ char_offsets (offset + n) c.next.new.self) (sym c.encoded_utf16_len.ensures)

pub returns-clause-goes : goal.returns-clause-goes
returns-clause-goes g c = progress-first _ (λ _. tt) _ _ _ (returns-clause-steps g c)

pub returns-in_default-clause-steps : goal.returns-in_default-clause-steps
returns-in_default-clause-steps g c = char_offsets-none c.self.inside.offset _ _ _ c.self.view_is c.in_default.ensures.steps
