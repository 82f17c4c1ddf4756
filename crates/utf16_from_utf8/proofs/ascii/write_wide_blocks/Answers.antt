use Rattle.std.proofs.Common.{refl}
use Rattle.utf16_from_utf8.proofs.AsciiLemmas.{none-written}
use Rattle.utf16_from_utf8.proofs.ascii.write_wide_blocks.Goals as goal

pub loop-at-init : goal.loop-at-init
loop-at-init g c = record {
  written = none-written g.E.Utf16Order.BIG c.args.bytes.now c.args.out.now;
  blocks = refl;
}

pub write_wide_block-at-requires-clause-ascii : goal.write_wide_block-at-requires-clause-ascii
write_wide_block-at-requires-clause-ascii g c = (c.greatest.ensures 0x80).0 (c.are_below.ensures.0 c.if-not-are_below.false)
