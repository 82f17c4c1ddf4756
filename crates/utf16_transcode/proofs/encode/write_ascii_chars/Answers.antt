use Rattle.std.proofs.Common.{slice_index, refl, arith}
use Rattle.utf16_units.proofs.CharLemmas.{char_size_two}
use Rattle.utf16_transcode.proofs.FromUtf8Lemmas.{ascii-more, utf16_empty}
use Rattle.utf16_transcode.proofs.TranscodedLemmas.{Writes-none}
use Rattle.utf16_transcode.proofs.encode.write_ascii_chars.Goals as goal

pub loop-len-init : goal.loop-len-init
loop-len-init g c = record {
  wrote = Writes-none (utf16_empty g.E.Utf16Order.BIG) _ _;
  twice = refl;
  most = omega arith;
}

pub loop-len-preserved : goal.loop-len-preserved
loop-len-preserved g c =
    let now = c.loop-len.invariant in
    let next = c.write_char-end in
    let low = c.if-bytes-len-lt128.true in
    let two = char_size_two (slice_index c.args.bytes.now c.loop-len.len) (omega (arith, low)) in
    record {
      wrote =
          ascii-more g.E.Utf16Order.BIG c.args.bytes.now c.loop-len.to next.new.to c.loop-len.len c.loop-len.end next.result now.wrote (omega (arith, now.most, c.loop-len-test.true, c.min-most.ensures)) low
          next.ensures.within next.ensures.bytes;
      twice = omega (arith, next.ensures.end, two, now.twice);
      most = omega (arith, c.loop-len-test.true);
    }
