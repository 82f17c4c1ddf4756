use Rattle.utf16_units.specs.Split.{lossy_text}
use Rattle.utf16_fixed.specs.Utf32.{utf32_units}
use Rattle.uses_buffers.proofs.LoopLemmas.{none_shown}
use Rattle.uses_buffers.proofs.utf32.ToUtf32LossyBufferCall.laws.Goals as goal

pub returns-clause-nothing : goal.returns-clause-nothing
returns-clause-nothing g c = none_shown (lossy_text g.E.Utf16Order.BIG) utf32_units
