use Rattle.std.proofs.Common.{refl}
use Rattle.utf16_transcode.specs.Transcoded.{SameText}
use Rattle.uses_buffers.proofs.CallLemmas.{composed}
use Rattle.uses_buffers.proofs.FormLemmas.{strict_end, strict_joined_there}
use Rattle.uses_buffers.specs.Calls.{IsStrictCall}
use Rattle.uses_buffers.specs.Forms.{strict}
use Rattle.uses_buffers.proofs.call_laws.strict_calls.Goals as goal

pub returns : goal.returns
returns g c input calls last run =
    let d = g.D.Direction in
    strict_end d.from d.into d.IsValid d.other d.IsIllFormed input _ _ last.stop
    (composed (IsStrictCall d.from d.into d.IsValid d.other d.IsIllFormed) (strict (SameText d.IsValid d.other) d.from d.into d.IsIllFormed) refl
    (λ input call did. record { within = did.0.within; writes = did.0.gives; stops = did.1 })
    (strict_joined_there d.from d.into d.IsValid d.other d.IsIllFormedAt d.IsIllFormed c.laws.ensures.joins c.laws.ensures.ill_formed c.laws.ensures.there) input calls last run)
