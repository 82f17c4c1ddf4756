use Rattle.std.proofs.Common.{◌≡◌, ◌∙◌, ◌++◌, [], ap, arith, length, subst, sym, true, Some}
use Rattle.std.specs.List.{remove_range}
use Rattle.utf16_units.specs.Boundary.{text_from, text_to}
use Rattle.utf16_units.specs.Encoding.{Encodes, is_utf16, text_of}
use Rattle.utf16_units.proofs.EditLemmas.{Encodes-checked, boundary-within, checked-Encodes}
use Rattle.utf16_units.proofs.EncodingLemmas.{text_of-Encodes}
use Rattle.utf16_str.specs.Window.{IsWindowOf, window_text}
use Rattle.utf16string.specs.Ranges.{window_replaced}
use Rattle.utf16string.specs.WString.{wstring_bytes, wstring_text}
use Rattle.utf16string.proofs.Ranged.{Encodes-cut_out}
use Rattle.utf16string.proofs.wstring.WString.drain.Given.{Over}
use Rattle.utf16string.proofs.wstring.WString.drain.Goals as goal
use Rattle.utf16string.proofs.wstring.WString.drain.Goals.{After-unwrap-start}

module _ (g : Over) (c : After-unwrap-start g) where
  there : g.I.SliceIndex.window c.args.range (length (wstring_bytes c.args.self.now)) ≡ Some c.unwrap-start.result
  there = sym (ap (g.I.SliceIndex.window c.args.range) c.len.ensures.bytes) ∙ sym c.window.ensures ∙ c.unwrap-start.ensures

  window : IsWindowOf (wstring_text c.args.self.now) (Some c.unwrap-start.result)
  window = subst (IsWindowOf (wstring_text c.args.self.now)) there c.requires

  left : Encodes g.E.Utf16Order.BIG (text_to (wstring_text c.args.self.now) c.unwrap-start.result.0 ++ text_from (wstring_text c.args.self.now) c.unwrap-start.result.1)
      (remove_range (wstring_bytes c.args.self.now) c.unwrap-start.result.0 c.unwrap-start.result.1)
  left = Encodes-cut_out _ _ _ _ _ (Encodes-checked _ _ c.args.self.now.well_formed) window.1 window.2

pub index-requires : goal.index-requires
index-requires g c = window g (goal.at.index-requires g c).After-unwrap-start

pub cut_out-requires-clause-ordered : goal.cut_out-requires-clause-ordered
cut_out-requires-clause-ordered g c = (window g (goal.at.cut_out-requires-clause-ordered g c).After-unwrap-start).0

pub cut_out-requires-clause-within : goal.cut_out-requires-clause-within
cut_out-requires-clause-within g c =
    let window = window g (goal.at.cut_out-requires-clause-within g c).After-unwrap-start in
    omega (arith, boundary-within _ _ _ c.args.self.now.well_formed window.2, c.args.self.now.raw.ok.0)

pub invariant_of-self : goal.invariant_of-self
invariant_of-self g c = record {
  well_formed =
      subst (λ bytes. is_utf16 g.E.Utf16Order.BIG bytes ≡ true) (sym c.cut_out.ensures.items)
      (checked-Encodes _ _ _ (left g (goal.at.invariant_of-self g c).After-unwrap-start));
}

pub returns-clause-text : goal.returns-clause-text
returns-clause-text g c =
    let at = (goal.at.returns-clause-text g c).After-unwrap-start in
    ap (text_of g.E.Utf16Order.BIG) c.cut_out.ensures.items ∙ text_of-Encodes _ _ _ (left g at)
    ∙ ap (λ w. window_replaced (wstring_text c.args.self.now) w []) (sym (there g at))

pub returns-clause-drained : goal.returns-clause-drained
returns-clause-drained g c =
    let at = (goal.at.returns-clause-drained g c).After-unwrap-start in
    c.in_ok-part.ensures.text ∙ c.index.ensures.text ∙ ap (window_text (wstring_text c.args.self.now)) (sym (there g at))
