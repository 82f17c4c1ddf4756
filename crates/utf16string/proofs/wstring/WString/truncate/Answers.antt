use Rattle.std.proofs.Common.{◌≡◌, ◌∙◌, ap, arith, subst, sym, true}
use Rattle.std.proofs.lemmas.List.{take_all}
use Rattle.utf16_units.specs.Encoding.{is_utf16, text_of}
use Rattle.utf16_units.proofs.BoundaryLemmas.{Encodes-to}
use Rattle.utf16_units.proofs.EditLemmas.{Encodes-checked, cut-checked}
use Rattle.utf16_units.proofs.EncodingLemmas.{IsUtf16-from_is_utf16, length-text, text_of-Encodes}
use Rattle.utf16string.proofs.wstring.WString.truncate.Goals as goal

pub invariant_of-self : goal.invariant_of-self
invariant_of-self g c = record {
  well_formed =
      subst (λ bytes. is_utf16 g.E.Utf16Order.BIG bytes ≡ true) (sym c.truncate.ensures.items) (cut-checked _ _ _ c.args.self.now.well_formed c.requires);
}

pub returns-clause-cut : goal.returns-clause-cut
returns-clause-cut g c before =
    ap (text_of g.E.Utf16Order.BIG) c.truncate.ensures.items
    ∙ text_of-Encodes _ _ _ (Encodes-to _ _ _ _ (Encodes-checked _ _ c.args.self.now.well_formed) (c.requires before))

pub returns-clause-past : goal.returns-clause-past
returns-clause-past g c past =
    let long = length-text _ _ (IsUtf16-from_is_utf16 _ _ c.args.self.now.well_formed) in
    ap (text_of g.E.Utf16Order.BIG) (c.truncate.ensures.items ∙ take_all _ _ (omega arith))
