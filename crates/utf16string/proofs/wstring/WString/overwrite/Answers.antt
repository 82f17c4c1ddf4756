use Rattle.std.proofs.Common.{◌≡◌, ◌∙◌, ◌+◌, ap, length, subst, sym}
use Rattle.std.specs.List.{refill, splice}
use Rattle.utf16_units.specs.Edit.{overwrite_at}
use Rattle.utf16_units.specs.Encoding.{Encodes, IsUtf16}
use Rattle.utf16_units.proofs.EditLemmas.{Encodes-checked, checked-Encodes}
use Rattle.utf16_units.proofs.EncodingLemmas.{IsUtf16-from_is_utf16, text_of-Encodes}
use Rattle.utf16_str.specs.WStr.{wstr_text}
use Rattle.utf16_str.proofs.Overwritten.{Encodes-over}
use Rattle.utf16string.specs.WString.{wstring_bytes, wstring_text}
use Rattle.utf16string.proofs.Edited.{written_back}
use Rattle.utf16string.proofs.wstring.WString.overwrite.Given.{Over}
use Rattle.utf16string.proofs.wstring.WString.overwrite.Goals as goal
use Rattle.utf16string.proofs.wstring.WString.overwrite.Goals.{After-overwrite_text}

module _ (g : Over) (c : After-overwrite_text g) where
  held : Encodes g.E.Utf16Order.BIG (overwrite_at (wstring_text c.args.self.now) c.args.idx (wstr_text c.args.text))
      (refill c.args.self.now.raw.len (wstring_bytes c.args.self.now) c.overwrite_text.new.raw)
  held =
      let lent = c.as_mut_slice.ensures.value in
      let over =
      Encodes-over _ _ _ _ c.args.idx c.args.self.now.well_formed (Encodes-checked _ _ c.args.text.well_formed) c.requires.end c.overwrite_text.new.raw c.requires.start
      (subst (λ bytes. c.overwrite_text.new.raw ≡ splice bytes c.args.idx (c.args.idx + length c.args.text.raw.now) c.args.text.raw.now) lent c.overwrite_text.ensures) in
      subst (Encodes g.E.Utf16Order.BIG (overwrite_at (wstring_text c.args.self.now) c.args.idx (wstr_text c.args.text)))
      (sym (written_back (wstring_bytes c.args.self.now) c.overwrite_text.new.raw c.args.self.now.raw.len c.args.self.now.raw.ok.0 (c.overwrite_text.auto.raw ∙ ap length lent)))
      over

pub overwrite_text-requires-clause-well_formed : goal.overwrite_text-requires-clause-well_formed
overwrite_text-requires-clause-well_formed g c =
    subst (IsUtf16 g.E.Utf16Order.BIG) (sym c.as_mut_slice.ensures.value) (IsUtf16-from_is_utf16 _ _ c.args.self.now.well_formed)

pub invariant_of-self : goal.invariant_of-self
invariant_of-self g c = record { well_formed = checked-Encodes _ _ _ (held g (goal.at.invariant_of-self g c).After-overwrite_text) }

pub returns-clause-text : goal.returns-clause-text
returns-clause-text g c = text_of-Encodes _ _ _ (held g (goal.at.returns-clause-text g c).After-overwrite_text)
