use Rattle.std.proofs.Common.{arith}
use Rattle.uses_buffers.proofs.FormLemmas.{partial_joined, partial_nothing}
use Rattle.uses_buffers.proofs.small_buffer.PartialBufferCall.laws.Goals as goal

pub returns-clause-joined : goal.returns-clause-joined
returns-clause-joined g c = partial_joined g.D.LossyDirection.split g.D.LossyDirection.into

pub returns-clause-short : goal.returns-clause-short
returns-clause-short g c input n left full = omega (arith, full.too_long, c.lossy_laws.ensures.short full.char)

pub returns-clause-nothing : goal.returns-clause-nothing
returns-clause-nothing g c = partial_nothing g.D.LossyDirection.split g.D.LossyDirection.into
