use Rattle.std.proofs.Common.{◌≡◌, ◌↔◌, ◌≤◌, ◌∙◌, [], length, sym, subst}
use Rattle.utf8_bytes.specs.Split.{whole_lossy_chars}
use Rattle.utf16_transcode.specs.Stream.{stream_pending}
use Rattle.utf16_transcode.specs.declared.progress.Stop.TheVariants.{Done}
use Rattle.utf16_transcode.proofs.DecodesUtf8.{flat_encode}
use Rattle.utf16_transcode.proofs.FeedsUtf8.{flat_size}
use Rattle.utf16_transcode.proofs.encode_stream.finish_utf8.Goals as goal

pub returns-clause-done : goal.returns-clause-done
returns-clause-done g c =
    subst (λ n. (c.finish.result.stop ≡ Done) ↔ (n ≤ length c.finish.new.to))
    (flat_size g.E.Utf16Order.BIG (whole_lossy_chars [] (stream_pending c.args.stream.now))) c.finish.ensures.done

pub returns-clause-text : goal.returns-clause-text
returns-clause-text g c done = c.finish.ensures.text done ∙ sym (flat_encode g.E.Utf16Order.BIG (whole_lossy_chars [] (stream_pending c.args.stream.now)))
