use Rattle.std.proofs.Common.{◌++◌, ◌∷◌, ◌∙◌, [], ap, sym}
use Rattle.utf16_units.specs.Encoding.{text_of}
use Rattle.utf16_str.proofs.OffsetLemmas.{none-left, progress-last}
use Rattle.utf16_str.proofs.iters.WStrCharsDoubleEndedIterator.next_back.Goals as goal

pub returns-then-is_empty-clause-steps : goal.returns-then-is_empty-clause-steps
returns-then-is_empty-clause-steps g c =
    none-left g.E.Utf16Order.BIG c.as_bytes-raw.result.now _ _ c.is_empty.result c.self.view_is c.as_bytes-raw.ensures.bytes c.is_empty.ensures c.if-is_empty.true

pub from_utf16_unchecked-self-inside-requires : goal.from_utf16_unchecked-self-inside-requires
from_utf16_unchecked-self-inside-requires g c = c.last_char-last.ensures.well_formed

pub returns-clause-steps : goal.returns-clause-steps
returns-clause-steps g c =
    sym c.self.view_is ∙ ap (text_of g.E.Utf16Order.BIG) (sym c.as_bytes-raw.ensures.bytes) ∙ c.last_char-last.ensures.joined
    ∙ ap (λ left. text_of g.E.Utf16Order.BIG left ++ c.last_char-last.result.0 ∷ []) (sym c.from_utf16_unchecked-self-inside.ensures.bytes)

pub returns-clause-goes : goal.returns-clause-goes
returns-clause-goes g c = progress-last _ (λ _. tt) _ _ _ (returns-clause-steps g c)
