use Rattle.uses_buffers.proofs.Latin1Lemmas.{from_latin1_joined, from_latin1_nothing}
use Rattle.uses_buffers.proofs.latin1.FromLatin1BufferCall.laws.Goals as goal

pub returns-clause-joined : goal.returns-clause-joined
returns-clause-joined g c = from_latin1_joined g.E.Utf16Order.BIG

pub returns-clause-nothing : goal.returns-clause-nothing
returns-clause-nothing g c = from_latin1_nothing g.E.Utf16Order.BIG
