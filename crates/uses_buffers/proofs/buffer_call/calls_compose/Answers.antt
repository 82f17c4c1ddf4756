use Rattle.uses_buffers.proofs.LoopLemmas.{composes}
use Rattle.uses_buffers.proofs.buffer_call.calls_compose.Goals as goal

pub returns : goal.returns
returns g c = composes g.C.BufferCall.conversion c.laws.ensures.joined
