use Rattle.uses_buffers.proofs.FormLemmas.{partial_end}
use Rattle.uses_buffers.proofs.small_buffer.partial_through.Goals as goal

pub returns : goal.returns
returns g c =
    let done = c.in_ok-all.ensures in
    let end = partial_end g.D.LossyDirection.split g.D.LossyDirection.into c.lossy_laws.ensures.chunks c.args.input.now _ _ _ done in
    record { text = end.0; tail = end.1; within = done.call.within }
