use Rattle.std.proofs.Common.{◌≡◌, ◌∙◌, ◌++◌, ◌≤◌, ap, arith, length, subst, sym, Some}
use Rattle.std.proofs.lemmas.Result.{on_ok_weaker}
use Rattle.std.specs.List.{splice}
use Rattle.utf16_units.specs.Boundary.{text_from, text_to}
use Rattle.utf16_units.specs.Encoding.{Encodes}
use Rattle.utf16_units.proofs.EditLemmas.{Encodes-checked, boundary-within}
use Rattle.utf16_str.specs.WStr.{wstr_text}
use Rattle.utf16_str.specs.Window.{IsWindowOf, window_bytes}
use Rattle.utf16string.specs.Ranges.{window_replaced}
use Rattle.utf16string.specs.WString.{wstring_bytes, wstring_text}
use Rattle.utf16string.proofs.Edited.{edited_text, still_text}
use Rattle.utf16string.proofs.Ranged.{Encodes-put, length-part, length-put}
use Rattle.utf16string.proofs.wstring.WString.replace_range.Given.{Over}
use Rattle.utf16string.proofs.wstring.WString.replace_range.Goals as goal
use Rattle.utf16string.proofs.wstring.WString.replace_range.Goals.{After-as_bytes}

module _ (g : Over) (c : After-as_bytes g) where
  there : g.I.SliceIndex.window c.args.range (length (wstring_bytes c.args.self.now)) ≡ Some c.unwrap-start.result
  there = sym (ap (g.I.SliceIndex.window c.args.range) c.len.ensures.bytes) ∙ sym c.window.ensures ∙ c.unwrap-start.ensures

  window : IsWindowOf (wstring_text c.args.self.now) (Some c.unwrap-start.result)
  window = subst (IsWindowOf (wstring_text c.args.self.now)) there c.requires

  within : c.unwrap-start.result.1 ≤ length (wstring_bytes c.args.self.now)
  within = boundary-within _ _ _ c.args.self.now.well_formed window.2

  put : Encodes g.E.Utf16Order.BIG
      (text_to (wstring_text c.args.self.now) c.unwrap-start.result.0 ++ (wstr_text c.args.replace_with ++ text_from (wstring_text c.args.self.now) c.unwrap-start.result.1))
      (splice (wstring_bytes c.args.self.now) c.unwrap-start.result.0 c.unwrap-start.result.1 c.as_bytes.result.now)
  put = Encodes-put _ _ _ _ _ (Encodes-checked _ _ c.args.self.now.well_formed) window.1 window.2 _ _ c.as_bytes.ensures.encoding

pub replace_bytes-requires-clause-ordered : goal.replace_bytes-requires-clause-ordered
replace_bytes-requires-clause-ordered g c = (window g (goal.at.replace_bytes-requires-clause-ordered g c).After-as_bytes).0

pub replace_bytes-requires-clause-within : goal.replace_bytes-requires-clause-within
replace_bytes-requires-clause-within g c = omega (arith, within g (goal.at.replace_bytes-requires-clause-within g c).After-as_bytes, c.args.self.now.raw.ok.0)

pub invariant_of-self : goal.invariant_of-self
invariant_of-self g c =
    let put = put g (goal.at.invariant_of-self g c).After-as_bytes in
    record { well_formed = still_text _ _ _ _ _ c.args.self.now.well_formed put (λ left. left.0.0) c.replace_bytes.result c.replace_bytes.ensures.items c.replace_bytes.ensures.err }

pub returns-clause-text : goal.returns-clause-text
returns-clause-text g c =
    let at = (goal.at.returns-clause-text g c).After-as_bytes in
    on_ok_weaker c.replace_bytes.result (λ e. e ∙ ap (λ w. window_replaced (wstring_text c.args.self.now) w (wstr_text c.args.replace_with)) (sym (there g at)))
    (edited_text _ _ _ _ _ c.args.self.now.well_formed (put g at) c.replace_bytes.result c.replace_bytes.ensures.items)

pub returns-clause-len : goal.returns-clause-len
returns-clause-len g c =
    let at = (goal.at.returns-clause-len g c).After-as_bytes in
    let old = wstring_bytes c.args.self.now in
    let put = length-put old _ _ (window g at).0 (within g at) c.as_bytes.result.now in
    on_ok_weaker c.replace_bytes.result (λ e. omega (arith, ap length e, put, ap (λ w. length (window_bytes old w)) (there g at), ap length c.as_bytes.ensures.bytes)) c.replace_bytes.ensures.items

pub returns-clause-succeeds : goal.returns-clause-succeeds
returns-clause-succeeds g c fits =
    let at = (goal.at.returns-clause-succeeds g c).After-as_bytes in
    c.replace_bytes.ensures.succeeds
    (omega (arith, fits, length-part (wstring_bytes c.args.self.now) _ _ (window g at).0 (within g at), ap (λ w. length (window_bytes (wstring_bytes c.args.self.now) w)) (there g at), ap length c.as_bytes.ensures.bytes, c.args.self.now.raw.ok.0))
