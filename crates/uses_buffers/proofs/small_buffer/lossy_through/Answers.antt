use Rattle.uses_buffers.proofs.FormLemmas.{lossy_end, whole_nothing}
use Rattle.uses_buffers.proofs.small_buffer.lossy_through.Goals as goal

pub returns : goal.returns
returns g c =
    let parts = g.D.LossyDirection.split in
    let into = g.D.LossyDirection.into in
    lossy_end parts.whole into (whole_nothing parts into c.lossy_laws.ensures.chunks) c.args.input.now _ _ _ c.in_ok-call_through.ensures
