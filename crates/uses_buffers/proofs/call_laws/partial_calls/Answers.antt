use Rattle.std.proofs.Common.{refl}
use Rattle.uses_buffers.proofs.CallLemmas.{composed}
use Rattle.uses_buffers.proofs.FormLemmas.{partial_end, partial_joined}
use Rattle.uses_buffers.specs.Calls.{IsPartialCall}
use Rattle.uses_buffers.specs.Forms.{partial}
use Rattle.uses_buffers.proofs.call_laws.partial_calls.Goals as goal

pub returns : goal.returns
returns g c input calls last run =
    let parts = g.D.LossyDirection.split in
    let into = g.D.LossyDirection.into in
    (partial_end parts into c.lossy_laws.ensures.chunks input _ _ last.stop
    (composed (IsPartialCall parts into) (partial parts into) refl (λ input call did. record { within = did.0.within; writes = did.0.decodes; stops = did.1 }) (partial_joined parts into) input calls last run)).0
