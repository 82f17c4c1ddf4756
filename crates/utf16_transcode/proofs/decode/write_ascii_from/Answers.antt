use Rattle.std.proofs.Common.{arith, refl, rules, take}
use Rattle.utf16_transcode.proofs.ToUtf8Lemmas.{utf8_joins}
use Rattle.utf16_transcode.proofs.TranscodedLemmas.{WritesAt-put, Writes-then}
use Rattle.utf16_transcode.proofs.decode.write_ascii_from.Goals as goal

pub loop-read-preserved : goal.loop-read-preserved
loop-read-preserved g c =
    let before = c.loop-read.invariant in
    let part = c.write_eight_ascii.new.to in
    let eight = c.if-not-write_eight_ascii.ensures in
    record {
      wrote = Writes-then (utf8_joins g.E.Utf16Order.BIG) _ _ _ _ _ _ _ before.wrote
          (WritesAt-put _ c.loop-read.to part (take 8 part) c.loop-read.written 16 8 before.wrote.fits (search rules) (search rules) (eight.well_formed refl, eight.utf8 refl) refl (search rules));
      more = omega (arith, before.more);
      within = search rules;
      ascii = omega (arith, before.ascii);
    }
