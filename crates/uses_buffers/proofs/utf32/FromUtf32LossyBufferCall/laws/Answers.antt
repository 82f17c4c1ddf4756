use Rattle.uses_buffers.proofs.Utf32Lemmas.{from_utf32_lossy_joined, from_utf32_lossy_nothing}
use Rattle.uses_buffers.proofs.utf32.FromUtf32LossyBufferCall.laws.Goals as goal

pub returns-clause-joined : goal.returns-clause-joined
returns-clause-joined g c = from_utf32_lossy_joined g.E.Utf16Order.BIG

pub returns-clause-nothing : goal.returns-clause-nothing
returns-clause-nothing g c = from_utf32_lossy_nothing g.E.Utf16Order.BIG
