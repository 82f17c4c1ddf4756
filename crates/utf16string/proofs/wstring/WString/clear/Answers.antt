use Rattle.std.proofs.Common.{◌≡◌, ◌∙◌, ap, rules, subst, sym, true}
use Rattle.utf16_units.specs.Encoding.{is_utf16, text_of}
use Rattle.utf16_units.proofs.EncodingLemmas.{IsUtf16-nil, is_utf16-from_IsUtf16, text_of-nil}
use Rattle.utf16string.proofs.wstring.WString.clear.Goals as goal

pub invariant_of-self : goal.invariant_of-self
invariant_of-self g c = record {
  well_formed = subst (λ bytes. is_utf16 g.E.Utf16Order.BIG bytes ≡ true) (sym c.clear.ensures.items) (is_utf16-from_IsUtf16 _ _ (IsUtf16-nil _));
}

pub returns-clause-text : goal.returns-clause-text
returns-clause-text g c = ap (text_of g.E.Utf16Order.BIG) c.clear.ensures.items ∙ text_of-nil _

pub returns-clause-capacity : goal.returns-clause-capacity
returns-clause-capacity g c = search rules
