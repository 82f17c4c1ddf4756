use Rattle.std.proofs.Common.{◌∙◌, ap, length}
use Rattle.utf16_units.specs.Encoding.{text_of}
use Rattle.utf16_str.proofs.iters.WStrChars.count.Goals as goal

pub returns : goal.returns
returns g c = c.count_chars.ensures ∙ ap (λ raw. length (text_of g.E.Utf16Order.BIG raw)) c.as_bytes.ensures.bytes ∙ ap length c.self.view_is
