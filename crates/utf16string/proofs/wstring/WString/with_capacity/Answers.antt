use Rattle.std.proofs.Common.{◌∙◌, ap, rules, subst, sym}
use Rattle.utf16_units.specs.Encoding.{IsUtf16, text_of}
use Rattle.utf16_units.proofs.EncodingLemmas.{IsUtf16-nil, text_of-nil}
use Rattle.utf16string.proofs.wstring.WString.with_capacity.Goals as goal

pub from_utf16_unchecked-requires : goal.from_utf16_unchecked-requires
from_utf16_unchecked-requires g c = subst (IsUtf16 g.E.Utf16Order.BIG) (sym c.in_ok-buf.ensures.items) (IsUtf16-nil _)

pub returns-clause-text : goal.returns-clause-text
returns-clause-text g c =
    ap (λ v. text_of g.E.Utf16Order.BIG v.items) c.from_utf16_unchecked.ensures.vec
    ∙ ap (text_of g.E.Utf16Order.BIG) c.in_ok-buf.ensures.items ∙ text_of-nil _

pub returns-clause-reserved : goal.returns-clause-reserved
returns-clause-reserved g c = search rules
