use Rattle.uses_buffers.proofs.Wtf8Lemmas.{from_wtf8_nothing, from_wtf8_partial_joined}
use Rattle.uses_buffers.proofs.wtf8.FromWtf8PartialBufferCall.laws.Goals as goal

pub returns-clause-joined : goal.returns-clause-joined
returns-clause-joined g c = from_wtf8_partial_joined g.E.Utf16Order.BIG

pub returns-clause-nothing : goal.returns-clause-nothing
returns-clause-nothing g c = from_wtf8_nothing g.E.Utf16Order.BIG
