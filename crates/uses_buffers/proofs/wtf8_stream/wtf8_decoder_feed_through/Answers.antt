use Rattle.std.proofs.Common.{◌≡◌, ◌≢◌, ◌≤◌, ◌++◌, ap, ◌∙◌, arith, length, rules, take}
use Rattle.std.specs.List.{flat_map}
use Rattle.std.specs.Vec.{vec_items}
use Rattle.utf16_transcode.specs.Stream.{stream_pending}
use Rattle.utf16_transcode.specs.declared.progress.Stop.TheVariants.{NoSpace}
use Rattle.utf16_transcode.proofs.ToUtf8Parts.{utf8_short}
use Rattle.utf16_wtf8.specs.ToWtf8.{wtf8_split}
use Rattle.utf16_wtf8.specs.Wtf8.{generalized_utf8}
use Rattle.utf16_wtf8.proofs.ToWtf8Lemmas.{wtf8_chunks}
use Rattle.uses_buffers.proofs.CallLemmas.{end_fits, end_text}
use Rattle.uses_buffers.proofs.wtf8_stream.wtf8_decoder_feed_through.Goals as goal

pub returns-in-Incomplete-clause-points : goal.returns-in-Incomplete-clause-points
returns-in-Incomplete-clause-points g c =
    let big = g.E.Utf16Order.BIG in
    let call = c.finish_wtf8-end in
    let fed = c.in_ok-all in
    let all = vec_items fed.all in
    let pending = stream_pending fed.stream in
    let is = c.in-Incomplete.is in
    let not_full : call.result.stop ≢ NoSpace = (λ full. cc) in
    let grown : vec_items c.extend_from_slice.new.self ≡ all ++ take call.result.written call.new.to = search rules in
    end_text (wtf8_split big) generalized_utf8 (wtf8_chunks big) (flat_map vec_items c.args.chunks.now) pending all _ fed.ensures.text fed.ensures.pending
    (grown ∙ ap (λ t. all ++ t) (call.ensures.text not_full))

pub returns-clause-points : goal.returns-clause-points
returns-clause-points g c =
    let big = g.E.Utf16Order.BIG in
    let call = c.finish_wtf8-end in
    let fed = c.in_ok-all in
    let all = vec_items fed.all in
    let pending = stream_pending fed.stream in
    let room : 4 ≤ length call.new.to = omega arith in
    let fits = end_fits (wtf8_split big) generalized_utf8 (wtf8_chunks big) utf8_short pending in
    let not_full : call.result.stop ≢ NoSpace = (λ full. omega (arith, call.ensures.no_space.0 full, fits, room)) in
    let grown : vec_items c.extend_from_slice.new.self ≡ all ++ take call.result.written call.new.to = search rules in
    end_text (wtf8_split big) generalized_utf8 (wtf8_chunks big) (flat_map vec_items c.args.chunks.now) pending all _ fed.ensures.text fed.ensures.pending
    (grown ∙ ap (λ t. all ++ t) (call.ensures.text not_full))

pub returns-clause-odd : goal.returns-clause-odd
returns-clause-odd g c =
    let call = c.finish_wtf8-end in
    let fed = c.in_ok-all in
    let room : 4 ≤ length call.new.to = omega arith in
    let fits = end_fits (wtf8_split g.E.Utf16Order.BIG) generalized_utf8 (wtf8_chunks g.E.Utf16Order.BIG) utf8_short (stream_pending fed.stream) in
    let not_full : call.result.stop ≢ NoSpace = (λ full. omega (arith, call.ensures.no_space.0 full, fits, room)) in (
      (λ yes. absurd (cc)),
      (λ odd. absurd (c.in_default.not-Incomplete (call.ensures.incomplete.1 (not_full, omega (arith, odd, ap length fed.ensures.pending))))),
    )
