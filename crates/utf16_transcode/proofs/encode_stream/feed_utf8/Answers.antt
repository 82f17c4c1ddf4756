use Rattle.std.proofs.Common.{◌≡◌, ◌↔◌, ◌++◌, ◌≤◌, length, subst}
use Rattle.utf8_bytes.specs.Split.{decided_text}
use Rattle.utf16_transcode.specs.Stream.{stream_pending}
use Rattle.utf16_transcode.specs.declared.progress.Stop.TheVariants.{Done}
use Rattle.utf16_transcode.proofs.FeedsUtf8.{enough_after_any, enough_after_tail, flat_size, leaves_tail}
use Rattle.utf16_transcode.proofs.encode_stream.feed_utf8.Goals as goal

pub returns-clause-done : goal.returns-clause-done
returns-clause-done g c =
    subst (λ n. (c.feed.result.stop ≡ Done) ↔ (n ≤ length c.feed.new.to))
    (flat_size g.E.Utf16Order.BIG (decided_text (stream_pending c.args.stream.now ++ c.args.piece.now))) c.feed.ensures.done

pub returns-clause-tail : goal.returns-clause-tail
returns-clause-tail g c tail = leaves_tail _ _ _ _ _ _ _ _ _ tail c.feed.ensures.feeds c.feed.ensures.stop

pub returns-clause-succeeds : goal.returns-clause-succeeds
returns-clause-succeeds g c tail fits = (returns-clause-done g c).1 (enough_after_tail _ c.args.piece.now _ tail fits)

pub returns-clause-succeeds_always : goal.returns-clause-succeeds_always
returns-clause-succeeds_always g c fits = (returns-clause-done g c).1 (enough_after_any _ c.args.piece.now _ fits)
