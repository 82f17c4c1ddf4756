use Rattle.std.proofs.Common.{◌≡◌, ◌∙◌, IfOk, ap, chars, subst}
use Rattle.utf16_units.proofs.EncodingLemmas.{IsUtf16-from_is_utf16, scalars-text_of}
use Rattle.utf16string.specs.WStr.{wstr_bytes, wstr_text}
use Rattle.uses_strings.proofs.laws.through_utf8.Goals as goal

pub returns : goal.returns
returns g c =
    let big = g.E.Utf16Order.BIG in
    let scalars = scalars-text_of big (wstr_bytes c.args.text) (IsUtf16-from_is_utf16 big (wstr_bytes c.args.text) c.args.text.well_formed) in
    let read = ap chars (c.deref.ensures ∙ c.in_ok-utf8.ensures.text) ∙ c.utf8_back.ensures (wstr_text c.args.text) scalars in
    subst (λ t. IfOk c.chars_of.result (λ found. found.items ≡ t)) read c.chars_of.ensures
