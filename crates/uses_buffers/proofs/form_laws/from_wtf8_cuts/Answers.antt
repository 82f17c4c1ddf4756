use Rattle.uses_buffers.proofs.CutLemmas.{from_wtf8_cuts, from_wtf8_partial_cuts}
use Rattle.uses_buffers.proofs.form_laws.from_wtf8_cuts.Goals as goal

pub returns : goal.returns
returns g c = record { chunk = from_wtf8_partial_cuts g.E.Utf16Order.BIG; end = from_wtf8_cuts g.E.Utf16Order.BIG }
