use Rattle.std.proofs.Common.{drop, take, sym, ap, arith}
use Rattle.utf16_from_utf8.proofs.LimitLemmas.{below-further}
use Rattle.utf16_from_utf8.proofs.ascii.write_wide_block.Goals as goal

pub write_read_block-third-requires-clause-ascii : goal.write_read_block-third-requires-clause-ascii
write_read_block-third-requires-clause-ascii g c =
    below-further c.args.bytes.now c.args.at 0x80 16 _ c.write_read_block-second.ensures.at (omega arith) c.requires.ascii

pub write_read_block-fourth-requires-clause-ascii : goal.write_read_block-fourth-requires-clause-ascii
write_read_block-fourth-requires-clause-ascii g c =
    below-further c.args.bytes.now c.args.at 0x80 32 _ (omega (arith, c.write_read_block-second.ensures.at, c.write_read_block-third.ensures.at)) (omega arith) c.requires.ascii

pub write_read_block-requires-clause-ascii : goal.write_read_block-requires-clause-ascii
write_read_block-requires-clause-ascii g c =
    below-further c.args.bytes.now c.args.at 0x80 48 _ (omega (arith, c.write_read_block-second.ensures.at, c.write_read_block-third.ensures.at, c.write_read_block-fourth.ensures.at)) (omega arith) c.requires.ascii

pub write_read_block-third-requires-clause-read : goal.write_read_block-third-requires-clause-read
write_read_block-third-requires-clause-read g c = ap (λ n. take 16 (drop n c.args.bytes.now)) (sym c.write_read_block-second.ensures.at)

pub write_read_block-fourth-requires-clause-read : goal.write_read_block-fourth-requires-clause-read
write_read_block-fourth-requires-clause-read g c = ap (λ n. take 16 (drop n c.args.bytes.now)) (omega (arith, c.write_read_block-second.ensures.at, c.write_read_block-third.ensures.at))

pub write_read_block-requires-clause-read : goal.write_read_block-requires-clause-read
write_read_block-requires-clause-read g c =
    ap (λ n. take 16 (drop n c.args.bytes.now)) (omega (arith, c.write_read_block-second.ensures.at, c.write_read_block-third.ensures.at, c.write_read_block-fourth.ensures.at))
