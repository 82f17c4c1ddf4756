use Rattle.std.proofs.Common.{◌≡◌, ◌∙◌, ap, length, subst, sym, take, true}
use Rattle.utf16_units.specs.Encoding.{IsUtf16, is_utf16, text_of}
use Rattle.utf16_units.proofs.EncodingLemmas.{IsUtf16-from_is_utf16, is_utf16-from_IsUtf16}
use Rattle.utf16string.specs.Retain.{IsAskable, RetainsTo}
use Rattle.utf16string.proofs.Edited.{written_back}
use Rattle.utf16string.proofs.Asked.{MayBeAsked-askable}
use Rattle.utf16string.proofs.wstring.WString.retain_by.Given.{Over}
use Rattle.utf16string.proofs.wstring.WString.retain_by.Goals.{After-truncate}
use Rattle.utf16string.proofs.wstring.WString.retain_by.Goals as goal

-- the string is left with the characters that were moved to the start
left : (g : Over) (c : After-truncate g) → c.truncate.new.self.items ≡ take c.retain_in_place-kept.result c.retain_in_place-kept.new.bytes
left g c =
    c.truncate.ensures.items
    ∙ ap (take c.retain_in_place-kept.result)
    (written_back _ _ _ c.args.self.now.raw.ok.0 (c.retain_in_place-kept.auto.bytes ∙ ap length c.as_mut_slice.ensures.value))

pub retain_in_place-kept-requires-clause-well_formed : goal.retain_in_place-kept-requires-clause-well_formed
retain_in_place-kept-requires-clause-well_formed g c =
    subst (IsUtf16 g.E.Utf16Order.BIG) (sym c.as_mut_slice.ensures.value) (IsUtf16-from_is_utf16 _ _ c.args.self.now.well_formed)

pub retain_in_place-kept-requires-clause-askable : goal.retain_in_place-kept-requires-clause-askable
retain_in_place-kept-requires-clause-askable g c =
    MayBeAsked-askable _ _ _ (subst (λ bytes. IsAskable g.F.FnMut c.args.f.now (text_of g.E.Utf16Order.BIG bytes)) (sym c.as_mut_slice.ensures.value) c.requires)

pub invariant_of-self : goal.invariant_of-self
invariant_of-self g c = record {
  well_formed =
      subst (λ bytes. is_utf16 g.E.Utf16Order.BIG bytes ≡ true) (sym (left g (goal.at.invariant_of-self g c).After-truncate))
      (is_utf16-from_IsUtf16 _ _ c.retain_in_place-kept.ensures.well_formed);
}

pub returns-clause-text : goal.returns-clause-text
returns-clause-text g c =
    let big = g.E.Utf16Order.BIG in
    subst (λ now. RetainsTo g.F.FnMut c.args.f.now (text_of big c.args.self.now.raw.items) (text_of big now) c.retain_in_place-kept.new.keep)
    (sym (left g (goal.at.returns-clause-text g c).After-truncate))
    (subst (λ old. RetainsTo g.F.FnMut c.args.f.now (text_of big old) (text_of big (take c.retain_in_place-kept.result c.retain_in_place-kept.new.bytes)) c.retain_in_place-kept.new.keep)
    c.as_mut_slice.ensures.value c.retain_in_place-kept.ensures.text)
