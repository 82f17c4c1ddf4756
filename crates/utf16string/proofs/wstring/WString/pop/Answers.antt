use Rattle.std.proofs.Common.{◌≡◌, ◌-◌, ◌∙◌, [], ap, ap₂, eqb-true, subst, sym, take, true}
use Rattle.std.proofs.lemmas.Bool.{false≢true}
use Rattle.std.proofs.lemmas.List.{nil_from_length}
use Rattle.utf16_units.specs.Encoding.{is_utf16, text_of}
use Rattle.utf16_units.proofs.EncodingLemmas.{IsUtf16-from_is_utf16, is_utf16-from_IsUtf16, text_of-nil}
use Rattle.utf16string.specs.WString.{wstring_bytes, wstring_text}
use Rattle.utf16string.proofs.wstring.WString.pop.Goals as goal

pub returns-then-is_empty-clause-some : goal.returns-then-is_empty-clause-some
returns-then-is_empty-clause-some g c =
    let empty = nil_from_length (wstring_bytes c.args.self.now) (sym c.args.self.now.raw.ok.0 ∙ eqb-true _ 0 (sym c.is_empty.ensures ∙ c.if-is_empty.true)) in
    let none : wstring_text c.args.self.now ≡ [] = ap (text_of g.E.Utf16Order.BIG) empty ∙ text_of-nil g.E.Utf16Order.BIG in
    (λ some. absurd (false≢true some), λ other. absurd (other none))

pub last_char-last-requires-clause-well_formed : goal.last_char-last-requires-clause-well_formed
last_char-last-requires-clause-well_formed g c =
    IsUtf16-from_is_utf16 _ _ (subst (λ bytes. is_utf16 g.E.Utf16Order.BIG bytes ≡ true) (sym c.deref.ensures.value) c.args.self.now.well_formed)

pub invariant_of-self : goal.invariant_of-self
invariant_of-self g c =
    let front =
    ap₂ (λ len bytes. take (len - c.last_char-last.result.1) bytes) (c.deref.ensures.len ∙ sym c.len.ensures) c.deref.ensures.value
    ∙ sym c.truncate.ensures.items in
    record { well_formed = subst (λ bytes. is_utf16 g.E.Utf16Order.BIG bytes ≡ true) front (is_utf16-from_IsUtf16 _ _ c.last_char-last.ensures.well_formed) }
