use Rattle.std.proofs.Common.{arith}
use Rattle.uses_buffers.proofs.FormLemmas.{lossy_joined}
use Rattle.uses_buffers.proofs.LoopLemmas.{none_shown}
use Rattle.uses_buffers.proofs.small_buffer.LossyBufferCall.laws.Goals as goal

pub returns-clause-joined : goal.returns-clause-joined
returns-clause-joined g c = lossy_joined g.D.LossyDirection.split.whole g.D.LossyDirection.into

pub returns-clause-short : goal.returns-clause-short
returns-clause-short g c input n left full = omega (arith, full.too_long, c.lossy_laws.ensures.short full.char)

pub returns-clause-nothing : goal.returns-clause-nothing
returns-clause-nothing g c = none_shown g.D.LossyDirection.split.whole g.D.LossyDirection.into
