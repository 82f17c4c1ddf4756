use Rattle.std.proofs.Common.{refl}
use Rattle.uses_buffers.proofs.CallLemmas.{composed}
use Rattle.uses_buffers.proofs.FormLemmas.{lossy_end, lossy_joined, whole_nothing}
use Rattle.uses_buffers.specs.Calls.{IsLossyCall}
use Rattle.uses_buffers.specs.Forms.{lossy}
use Rattle.uses_buffers.proofs.call_laws.lossy_calls.Goals as goal

pub returns : goal.returns
returns g c input calls last run =
    let parts = g.D.LossyDirection.split in
    let into = g.D.LossyDirection.into in
    lossy_end parts.whole into (whole_nothing parts into c.lossy_laws.ensures.chunks) input _ _ last.stop
    (composed (IsLossyCall parts.whole into) (lossy parts.whole into) refl (λ input call did. record { within = did.0.within; writes = did.0.shown; stops = did.1 }) (lossy_joined parts.whole into) input calls last run)
