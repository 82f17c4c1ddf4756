use Rattle.uses_buffers.proofs.Utf32Lemmas.{from_utf32_lossy_end}
use Rattle.uses_buffers.proofs.utf32.from_utf32_lossy_through.Goals as goal

pub returns : goal.returns
returns g c = from_utf32_lossy_end g.E.Utf16Order.BIG c.args.utf32.now _ _ _ c.in_ok-call_through.ensures
