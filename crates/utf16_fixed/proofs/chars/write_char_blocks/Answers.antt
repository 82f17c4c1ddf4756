use Rattle.std.proofs.Common.{arith, drop, refl, subst, sym, take}
use Rattle.std.proofs.lemmas.List.{take_rest}
use Rattle.utf16_transcode.proofs.TranscodedLemmas.{Writes-then}
use Rattle.utf16_units.specs.Encoding.{Encodes, encode}
use Rattle.utf16_fixed.proofs.PartLemmas.{length-rest}
use Rattle.utf16_fixed.proofs.TextLemmas.{utf16_joins}
use Rattle.utf16_fixed.proofs.chars.write_char_blocks.Goals as goal
use Rattle.utf16_fixed.proofs.chars.write_char_blocks.Goals.{then-end-done, else-end-done}

pub loop-done-preserved : goal.loop-done-preserved
loop-done-preserved g c =
    let big = g.E.Utf16Order.BIG in
    let utf32 = c.args.utf32.now in
    let read = c.loop-done.done.read in
    let now = c.loop-done.invariant in
    let end = c.write_eight-end in
    let chars = take 8 (drop read utf32) in
    record {
      wrote =
          Writes-then (utf16_joins big) _ _ _ _ _ 8 _ now.wrote
          (record {
            within = omega (arith, length-rest utf32 read, now.wrote.within, c.loop-done-test.true);
            fits = omega (arith, end.ensures.written_to, end.auto.to, c.loop-done-test.true);
            added = encode big chars;
            gives = subst (λ r. Encodes big (take 8 r) (encode big chars)) (sym (take_rest utf32 read)) (record { scalars = c.are_scalars.ensures c.if-not-are_scalars.false; spelled = refl });
            bytes = end.ensures.bytes;
          });
      after = omega (arith, now.after);
      plain = elim c.if-end-done.branch [ then-end-done w ↦ rw w.plain-is (omega (arith, now.plain, c.if-plain-eq-PLAIN_BLOCKS.false)) | else-end-done w ↦ rw w.plain-is (omega arith) ];
    }
