use Rattle.std.proofs.Common.{◌∙◌, ap, map, sym}
use Rattle.utf16_str.proofs.OffsetLemmas.{map-char_offsets}
use Rattle.utf16_str.proofs.iters.WStrCharIndices.as_wstr.Goals as goal

pub returns : goal.returns
returns g c = c.as_wstr.ensures ∙ sym (map-char_offsets c.self.inside.offset c.self.inside.chars) ∙ ap (map (λ at. at.1)) c.self.view_is
