use Rattle.uses_buffers.proofs.Utf32Lemmas.{to_utf32_joined}
use Rattle.uses_buffers.proofs.utf32.ToUtf32BufferCall.laws.Goals as goal

pub returns-clause-joined : goal.returns-clause-joined
returns-clause-joined g c = to_utf32_joined g.E.Utf16Order.BIG c.laws.ensures.there
