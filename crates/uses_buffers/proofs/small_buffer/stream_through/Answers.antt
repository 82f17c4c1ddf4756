use Rattle.std.proofs.Common.{◌≡◌, ◌≤◌, ◌++◌, ap, ◌∙◌, arith, length, rules, take}
use Rattle.std.specs.List.{flat_map}
use Rattle.std.specs.Vec.{vec_items}
use Rattle.utf16_transcode.specs.Stream.{stream_pending}
use Rattle.uses_buffers.proofs.CallLemmas.{end_fits, end_text}
use Rattle.uses_buffers.proofs.small_buffer.stream_through.Goals as goal

pub returns : goal.returns
returns g c =
    let parts = g.D.LossyDirection.split in
    let into = g.D.LossyDirection.into in
    let call = c.finish-progress in
    let fed = c.in_ok-all in
    let all = vec_items fed.all in
    let pending = stream_pending fed.stream in
    let room : 4 ≤ length call.new.to = omega arith in
    let grown : vec_items c.extend_from_slice.new.self ≡ all ++ take call.result.written call.new.to = search rules in
    let fits = end_fits parts into c.lossy_laws.ensures.chunks c.lossy_laws.ensures.short pending in
    let done = call.ensures.done.1 (omega arith) in
    end_text parts into c.lossy_laws.ensures.chunks (flat_map vec_items c.args.chunks.now) pending all _ fed.ensures.text fed.ensures.pending
    (grown ∙ ap (λ t. all ++ t) (call.ensures.text done))
