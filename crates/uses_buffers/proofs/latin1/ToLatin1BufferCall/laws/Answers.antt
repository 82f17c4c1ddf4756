use Rattle.uses_buffers.proofs.Latin1Lemmas.{to_latin1_joined}
use Rattle.uses_buffers.proofs.latin1.ToLatin1BufferCall.laws.Goals as goal

pub returns-clause-joined : goal.returns-clause-joined
returns-clause-joined g c = to_latin1_joined g.E.Utf16Order.BIG c.laws.ensures.there
