use Rattle.uses_buffers.proofs.Wtf8StreamLemmas.{stream_end, stream_fault}
use Rattle.uses_buffers.proofs.form_laws.wtf8_stream_calls.Goals as goal

pub returns : goal.returns
returns g c = record { end = stream_end g.E.Utf16Order.BIG; fault = stream_fault g.E.Utf16Order.BIG }
