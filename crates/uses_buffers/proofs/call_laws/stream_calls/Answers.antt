use Rattle.uses_buffers.proofs.CallLemmas.{stream_calls}
use Rattle.uses_buffers.proofs.call_laws.stream_calls.Goals as goal

pub returns : goal.returns
returns g c = stream_calls g.D.LossyDirection.split _ c.lossy_laws.ensures.chunks
