use Rattle.std.proofs.Common.{◌≡◌, ℕ, ◌-◌, Bool, true, false, List, length, sym, ap, ◌∙◌}
use Rattle.utf16_transcode.specs.declared.progress.Stop.{Stop}
use Rattle.utf16_wtf8.specs.Stream.{StopsFeedingWtf8, wtf8_pending}
use Rattle.dethrux.specs.Numbers.{is_big, stop_of}
use Rattle.dethrux.proofs.wtf8_encoder.dethrux_wtf8_encoder_feed.Goals as goal
use Rattle.dethrux.proofs.wtf8_encoder.dethrux_wtf8_encoder_feed.Goals.{else-is_big_endian, then-is_big_endian}

-- what is said of a call is said of equal values
same : (pending chunk : List ℕ) (big other : Bool) (left left' : List ℕ) (read read' room room' : ℕ) (stop stop' : Stop) → StopsFeedingWtf8 big pending chunk left read room stop
    → other ≡ big → left' ≡ left → read' ≡ read → room' ≡ room → stop' ≡ stop → StopsFeedingWtf8 other pending chunk left' read' room' stop'
same pending chunk big other left left' read read' room room' stop stop' here a b c d e = rw (a, b, c, d, e) here

pub returns-clause-stop : goal.returns-clause-stop
returns-clause-stop c =
    let made = c.progress_of.result in
    let room = length c.if-is_big_endian.to - made.written in
    let left = wtf8_pending c.if-is_big_endian.encoder in
    elim c.if-is_big_endian.branch [
      | then-is_big_endian w ↦
          let feed = w.feed in
          same _ _ true (is_big c.args.byte_order) (wtf8_pending feed.new.self) left feed.result.read made.read (length feed.new.to - feed.result.written) room feed.result.stop (stop_of made) feed.ensures.stop
          (sym c.is_big_endian.ensures ∙ w.if-is_big_endian.true) (ap wtf8_pending w.encoder-is) (cc) (cc) (cc)
      | else-is_big_endian w ↦
          let feed = w.feed-else-is_big_endian in
          same _ _ false (is_big c.args.byte_order) (wtf8_pending feed.new.self) left feed.result.read made.read (length feed.new.to - feed.result.written) room feed.result.stop (stop_of made) feed.ensures.stop
          (sym c.is_big_endian.ensures ∙ w.if-is_big_endian.false) (ap wtf8_pending w.encoder-is) (cc) (cc) (cc)
    ]
