use Rattle.std.proofs.Common.{◌≡◌, ◌∙◌, [], ap, append-nil, arith, drop, rules, subst, sym, take}
use Rattle.utf16_units.specs.Boundary.{text_from, text_to}
use Rattle.utf16_units.specs.Encoding.{Encodes, IsUtf16, text_of}
use Rattle.utf16_units.proofs.BoundaryLemmas.{Encodes-from, Encodes-to, text_from-at, text_to-at}
use Rattle.utf16_units.proofs.EditLemmas.{Encodes-checked, boundary-within}
use Rattle.utf16_units.proofs.EncodingLemmas.{IsUtf16-from_Encodes, IsUtf16-from_is_utf16, length-text, text_of-Encodes}
use Rattle.utf16string.specs.WString.{wstring_bytes, wstring_text}
use Rattle.utf16string.proofs.Edited.{still_text}
use Rattle.utf16string.proofs.wstring.WString.split_off.Given.{Over}
use Rattle.utf16string.proofs.wstring.WString.split_off.Goals as goal
use Rattle.utf16string.proofs.wstring.WString.split_off.Goals.{Start}

module _ (g : Over) (c : Start g) where
  kept : Encodes g.E.Utf16Order.BIG (text_to (wstring_text c.args.self.now) c.args.at) (take c.args.at (wstring_bytes c.args.self.now))
  kept = Encodes-to _ _ _ _ (Encodes-checked _ _ c.args.self.now.well_formed) c.requires

  taken : Encodes g.E.Utf16Order.BIG (text_from (wstring_text c.args.self.now) c.args.at) (drop c.args.at (wstring_bytes c.args.self.now))
  taken = Encodes-from _ _ _ _ (Encodes-checked _ _ c.args.self.now.well_formed) c.requires

pub split_off-requires : goal.split_off-requires
split_off-requires g c =
    let vec = c.args.self.now.raw in
    omega (arith, boundary-within _ _ c.args.at c.args.self.now.well_formed c.requires, vec.ok.0)

pub invariant_of-self : goal.invariant_of-self
invariant_of-self g c =
    let cut = c.split_off in
    record { well_formed = still_text _ _ _ _ _ c.args.self.now.well_formed (kept g (goal.at.invariant_of-self g c).Start) (ap (λ v. v.items)) cut.result cut.ensures.items cut.ensures.err }

pub from_utf16_unchecked-requires : goal.from_utf16_unchecked-requires
from_utf16_unchecked-requires g c =
    subst (IsUtf16 g.E.Utf16Order.BIG) (sym c.in_ok-back.ensures.tail) (IsUtf16-from_Encodes _ _ _ (taken g (goal.at.from_utf16_unchecked-requires g c).Start))

pub returns-clause-front : goal.returns-clause-front
returns-clause-front g c = ap (text_of g.E.Utf16Order.BIG) c.in_ok-back.ensures.items ∙ text_of-Encodes _ _ _ (kept g (goal.at.returns-clause-front g c).Start)

pub returns-clause-back : goal.returns-clause-back
returns-clause-back g c =
    ap (λ v. text_of g.E.Utf16Order.BIG v.items) c.from_utf16_unchecked.ensures.vec
    ∙ ap (text_of g.E.Utf16Order.BIG) c.in_ok-back.ensures.tail
    ∙ text_of-Encodes _ _ _ (taken g (goal.at.returns-clause-back g c).Start)

pub returns-in_err-back-clause-infallible : goal.returns-in_err-back-clause-infallible
returns-in_err-back-clause-infallible g c at_end infallible =
    let vec = c.args.self.now.raw in
    let long = length-text _ _ (IsUtf16-from_is_utf16 _ _ c.args.self.now.well_formed) in
    let never = c.in_err-back.ensures.succeeds (omega (arith, vec.ok.0)) infallible in
    search rules

pub returns-then-at-len-clause-front : goal.returns-then-at-len-clause-front
returns-then-at-len-clause-front g c =
    let text = wstring_text c.args.self.now in
    sym (subst (λ t. text_to t c.args.at ≡ text) (append-nil text) (text_to-at text [] c.args.at (sym (c.if-at-len.true ∙ c.len.ensures.size))))

pub returns-then-at-len-clause-back : goal.returns-then-at-len-clause-back
returns-then-at-len-clause-back g c =
    let text = wstring_text c.args.self.now in
    c.new.ensures.text ∙ sym (subst (λ t. text_from t c.args.at ≡ []) (append-nil text) (text_from-at text [] c.args.at (sym (c.if-at-len.true ∙ c.len.ensures.size))))
