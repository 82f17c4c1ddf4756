use Rattle.std.proofs.Common.{◌∙◌, ap}
use Rattle.std.proofs.lemmas.List.{nil_from_length}
use Rattle.utf16_units.specs.Encoding.{size}
use Rattle.utf16_units.proofs.EncodingLemmas.{IsUtf16-from_Encodes, length-text, size-nil, text_of-Encodes}
use Rattle.utf16_str.proofs.wstr.WStr.to_utf8.Goals as goal

pub returns-clause-nothing : goal.returns-clause-nothing
returns-clause-nothing g c empty =
    let raw = c.as_bytes.result.now in
    let encoding = c.as_bytes.ensures.encoding in
    let text = text_of-Encodes g.E.Utf16Order.BIG _ raw encoding in
    c.to_utf8.ensures.nothing
    (nil_from_length raw (length-text g.E.Utf16Order.BIG raw (IsUtf16-from_Encodes _ _ _ encoding) ∙ ap size (text ∙ empty) ∙ size-nil))
