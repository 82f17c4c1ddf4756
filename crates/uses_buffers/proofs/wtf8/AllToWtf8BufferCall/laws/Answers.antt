use Rattle.uses_buffers.proofs.Wtf8Lemmas.{to_wtf8_short}
use Rattle.uses_buffers.proofs.wtf8.AllToWtf8BufferCall.laws.Goals as goal

pub returns-clause-short : goal.returns-clause-short
returns-clause-short g c = to_wtf8_short g.E.Utf16Order.BIG
