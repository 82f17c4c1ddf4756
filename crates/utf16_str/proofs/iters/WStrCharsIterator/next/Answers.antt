use Rattle.std.proofs.Common.{◌∷◌, ◌∙◌, ap, subst, sym}
use Rattle.std.proofs.lemmas.List.{take_rest}
use Rattle.utf16_units.specs.Encoding.{IsUtf16, text_of}
use Rattle.utf16_str.proofs.OffsetLemmas.{none-left, progress-first}
use Rattle.utf16_str.proofs.iters.WStrCharsIterator.next.Goals as goal

pub returns-then-is_empty-clause-steps : goal.returns-then-is_empty-clause-steps
returns-then-is_empty-clause-steps g c =
    none-left g.E.Utf16Order.BIG c.as_bytes-raw.result.now _ _ c.is_empty.result c.self.view_is c.as_bytes-raw.ensures.bytes c.is_empty.ensures c.if-is_empty.true

pub from_utf16_unchecked-self-inside-requires : goal.from_utf16_unchecked-self-inside-requires
from_utf16_unchecked-self-inside-requires g c = subst (IsUtf16 g.E.Utf16Order.BIG) (sym (take_rest c.as_bytes-raw.result.now c.first_char-first.result.1)) c.first_char-first.ensures.well_formed

pub returns-clause-steps : goal.returns-clause-steps
returns-clause-steps g c =
    let raw = c.as_bytes-raw.result.now in
    sym c.self.view_is ∙ ap (text_of g.E.Utf16Order.BIG) (sym c.as_bytes-raw.ensures.bytes) ∙ c.first_char-first.ensures.joined
    ∙ ap (λ left. c.first_char-first.result.0 ∷ text_of g.E.Utf16Order.BIG left) (sym (c.from_utf16_unchecked-self-inside.ensures.bytes ∙ take_rest raw _))

pub returns-clause-goes : goal.returns-clause-goes
returns-clause-goes g c = progress-first _ (λ _. tt) _ _ _ (returns-clause-steps g c)
