use Rattle.std.proofs.Common.{◌-◌, length, take, ap, sym, ◌∙◌, arith}
use Rattle.std.specs.Str.{chars}
use Rattle.utf16_units.specs.Encoding.{encode}
use Rattle.utf16_from_utf8.specs.Lanes.{kept_pairs}
use Rattle.utf16_from_utf8.proofs.AsciiLemmas.{front-written}
use Rattle.utf16_from_utf8.proofs.BlockLemmas.{added-bound, added-filled, block-added}
use Rattle.utf16_from_utf8.proofs.ShortLemmas.{filled-units, filled-whole}
use Rattle.utf16_from_utf8.proofs.TextLemmas.{added_bytes-text}
use Rattle.utf16_from_utf8.specs.Added.{added_bytes}
use Rattle.utf16_from_utf8.proofs.short.write_short.Goals as goal

pub returns-then-is_ascii-clause-bytes : goal.returns-then-is_ascii-clause-bytes
returns-then-is_ascii-clause-bytes g c =
    let big = g.E.Utf16Order.BIG in
    let spread = c.spread-block.ensures in
    let wrote = c.write_ascii_block.ensures in
    front-written big c.spread-block.result c.write_ascii_block.new.out (length c.args.text.now) spread.len (c.is_ascii.ensures.0 c.if-is_ascii.true) c.requires.few
    (ap (λ n. take n c.write_ascii_block.new.out) (sym wrote.written_to ∙ omega arith) ∙ wrote.bytes)
    ∙ ap (λ t. encode big (chars t)) spread.text

pub returns-clause-bytes : goal.returns-clause-bytes
returns-clause-bytes g c =
    let big = g.E.Utf16Order.BIG in
    let text = c.args.text.now in
    let block = c.filled-block.result in
    let high = c.four_bytes.ensures.highs in
    let low = c.four_bytes.ensures.lows in
    let whole = filled-whole text c.spread-block.result block c.requires.few c.spread-block.ensures.len c.spread-block.ensures.text c.filled-block.ensures in
    c.write_kept.ensures.pairs
    ∙ ap (kept_pairs c.ended_bits.result) c.paired.ensures.pairs
    ∙ block-added big 0 0 block c.before-2.result.0 c.before-2.result.1 _ _ c.ended_bits.result c.before-2.ensures c.filled-block.ensures.len high.len low.len c.ended_bits.ensures.bits
    (filled-units text block c.before-2.result.0 c.before-2.result.1 _ _ c.requires.well_formed c.requires.few whole c.before-2.ensures high low)
    ∙ ap (added_bytes big 0 0) whole ∙ added-filled big 0 0 text (16 - length text) ∙ added_bytes-text big text c.requires.well_formed

pub returns-clause-written_to : goal.returns-clause-written_to
returns-clause-written_to g c =
    let utf8 = c.requires.well_formed in
    let bound =
    added-bound g.E.Utf16Order.BIG 0 0 c.args.out.now c.write_kept.new.out c.args.text.now 0 c.write_kept.result (omega arith) (omega (arith, c.write_kept.ensures.written_to, c.write_kept.auto.out, c.requires.space))
    (returns-clause-bytes g c ∙ sym (added_bytes-text g.E.Utf16Order.BIG c.args.text.now utf8)) in
    omega (arith, bound)
