use Rattle.std.proofs.Common.{◌∙◌, ap, length, not, subst, sym}
use Rattle.utf16_bytes.proofs.SwapLemmas.{opposite_order, same_order}
use Rattle.utf16_units.specs.Encoding.{Encodes, text_of}
use Rattle.utf16_units.proofs.EncodingLemmas.{Encodes-text_of, IsUtf16-from_Encodes, IsUtf16-from_is_utf16, text_of-Encodes}
use Rattle.utf16string.proofs.Edited.{written_back}
use Rattle.utf16string.proofs.wstring.WString.into_byte_order.Given.{Over}
use Rattle.utf16string.proofs.wstring.WString.into_byte_order.Goals as goal
use Rattle.utf16string.proofs.wstring.WString.into_byte_order.Goals.{Joined-BIG, then-BIG, else-BIG}

-- the vector holds the text in the other byte order, overwritten or not
held : (g : Over) (c : Joined-BIG g) → Encodes g.F.Utf16Order.BIG (text_of g.E.Utf16Order.BIG c.args.self.raw.items) c.if-BIG.raw.items
held g c =
    let big = g.E.Utf16Order.BIG in
    let old = c.args.self.raw in
    let text = text_of big old.items in
    let before = Encodes-text_of big old.items (IsUtf16-from_is_utf16 _ _ c.args.self.well_formed) in
    elim c.if-BIG.branch [
      | then-BIG w ↦ rw w.raw-is (
          let lent = w.as_mut_slice.ensures.value in
          let other = ap not (sym c.BIG.ensures) ∙ opposite_order c.BIG.result c.BIG-2.result w.if-BIG.true ∙ c.BIG-2.ensures in
          subst (Encodes g.F.Utf16Order.BIG text) (sym (written_back old.items w.swap_byte_order.new.utf16 old.len old.ok.0 (w.swap_byte_order.auto.utf16 ∙ ap length lent)))
          (subst (λ order. Encodes order text w.swap_byte_order.new.utf16) other (w.swap_byte_order.ensures.text big text (subst (Encodes big text) (sym lent) before))))
      | else-BIG w ↦ rw w.raw-is (
          let same = sym c.BIG.ensures ∙ same_order c.BIG.result c.BIG-2.result w.if-BIG.false ∙ c.BIG-2.ensures in
          subst (λ order. Encodes order text old.items) same before)
    ]

pub from_utf16_unchecked-requires : goal.from_utf16_unchecked-requires
from_utf16_unchecked-requires g c = IsUtf16-from_Encodes _ _ _ (held g c)

pub returns-clause-text : goal.returns-clause-text
returns-clause-text g c =
    ap (λ v. text_of g.F.Utf16Order.BIG v.items) c.from_utf16_unchecked.ensures.vec ∙ text_of-Encodes _ _ _ (held g (goal.at.returns-clause-text g c).Joined-BIG)

pub returns-clause-encoding : goal.returns-clause-encoding
returns-clause-encoding g c =
    subst (λ v. Encodes g.F.Utf16Order.BIG (text_of g.E.Utf16Order.BIG c.args.self.raw.items) v.items) (sym c.from_utf16_unchecked.ensures.vec)
    (held g (goal.at.returns-clause-encoding g c).Joined-BIG)
