use Rattle.std.proofs.Common.{◌≡◌, ◌↔◌, ◌≤◌, ◌++◌, true, false, encode_utf8_all, length, ap, subst, arith, rules}
use Rattle.utf16_units.specs.Split.{decided_text}
use Rattle.utf16_units.proofs.FirstChar.{AreBytes, AreBytes-from_All}
use Rattle.utf16_transcode.specs.Stream.{stream_pending}
use Rattle.utf16_transcode.specs.declared.progress.Stop.TheVariants.{Done}
use Rattle.dethrux.specs.Numbers.{is_big}
use Rattle.dethrux.proofs.Bounds.{fed_within}
use Rattle.dethrux.proofs.decoder.dethrux_decoder_feed.Goals as goal
use Rattle.dethrux.proofs.decoder.dethrux_decoder_feed.Goals.{else-is_big_endian, then-is_big_endian}

pub returns-clause-done : goal.returns-clause-done
returns-clause-done c =
    let bytes = stream_pending c.args.decoder.now ++ c.args.chunk.now in
    elim c.if-is_big_endian.branch [
      | then-is_big_endian w ↦
          let done : (w.feed.result.stop ≡ Done) ↔ (length (encode_utf8_all (decided_text true bytes)) ≤ length w.feed.new.to) = w.feed.ensures.done in
          search rules
      | else-is_big_endian w ↦
          let feed = w.feed-else-is_big_endian in
          let done : (feed.result.stop ≡ Done) ↔ (length (encode_utf8_all (decided_text false bytes)) ≤ length feed.new.to) = feed.ensures.done in
          search rules
    ]

pub returns-clause-succeeds : goal.returns-clause-succeeds
returns-clause-succeeds c enough =
    let pending = stream_pending c.args.decoder.now in
    let same = c.pending.ensures.bytes in
    let few : length pending ≤ 3 = omega (arith, c.pending.ensures.few, ap length same) in
    let are = subst AreBytes same (AreBytes-from_All c.pending.result.now c.bytes_law.ensures) in
    let fits = fed_within (is_big c.args.byte_order) pending c.args.chunk.now few are (λ k. omega (arith, c.type_inv.chunk k)) in
    (returns-clause-done c).1 (omega (arith, enough, fits))
