use Rattle.std.proofs.Common.{◌∙◌, ap, length, sym}
use Rattle.utf16_str.proofs.OffsetLemmas.{length-char_offsets}
use Rattle.utf16_str.proofs.iters.WStrCharIndices.count.Goals as goal

pub returns : goal.returns
returns g c = c.count.ensures ∙ sym (length-char_offsets c.self.inside.offset c.self.inside.chars) ∙ ap length c.self.view_is
