use Rattle.std.proofs.Common.{◌∙◌, ap, length, map, subst, sym}
use Rattle.utf16string.specs.AsciiCase.{in_case}
use Rattle.std.specs.List.{refill}
use Rattle.utf16_units.specs.Encoding.{Encodes, IsUtf16, text_of}
use Rattle.utf16_units.proofs.EditLemmas.{checked-Encodes}
use Rattle.utf16_units.proofs.EncodingLemmas.{IsUtf16-from_is_utf16, text_of-Encodes}
use Rattle.utf16string.specs.WString.{wstring_bytes, wstring_text}
use Rattle.utf16string.proofs.Edited.{written_back}
use Rattle.utf16string.proofs.wstring.WString.make_case.Given.{Over}
use Rattle.utf16string.proofs.wstring.WString.make_case.Goals as goal
use Rattle.utf16string.proofs.wstring.WString.make_case.Goals.{After-change_case}

held : (g : Over) (c : After-change_case g)
    → Encodes g.E.Utf16Order.BIG (map (in_case c.args.case) (wstring_text c.args.self.now)) (refill c.args.self.now.raw.len (wstring_bytes c.args.self.now) c.change_case.new.raw)
held g c =
    let big = g.E.Utf16Order.BIG in
    let lent = c.as_mut_slice.ensures.value in
    let changed = subst (λ bytes. Encodes big (map (in_case c.args.case) (text_of big bytes)) c.change_case.new.raw) lent c.change_case.ensures in
    subst (Encodes big (map (in_case c.args.case) (wstring_text c.args.self.now)))
    (sym (written_back (wstring_bytes c.args.self.now) c.change_case.new.raw c.args.self.now.raw.len c.args.self.now.raw.ok.0 (c.change_case.auto.raw ∙ ap length lent)))
    changed

pub change_case-requires : goal.change_case-requires
change_case-requires g c = subst (IsUtf16 g.E.Utf16Order.BIG) (sym c.as_mut_slice.ensures.value) (IsUtf16-from_is_utf16 _ _ c.args.self.now.well_formed)

pub invariant_of-self : goal.invariant_of-self
invariant_of-self g c = record { well_formed = checked-Encodes _ _ _ (held g (goal.at.invariant_of-self g c).After-change_case) }

pub returns-clause-text : goal.returns-clause-text
returns-clause-text g c = text_of-Encodes _ _ _ (held g (goal.at.returns-clause-text g c).After-change_case)
