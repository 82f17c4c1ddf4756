use Rattle.std.proofs.Common.{◌≡◌, subst, arith}
use Rattle.utf16_from_utf8.specs.Follow.{AreBelow}
use Rattle.utf16_from_utf8.proofs.blocks.write_next.Goals as goal

pub write_ascii_run-requires-clause-ascii : goal.write_ascii_run-requires-clause-ascii
write_ascii_run-requires-clause-ascii g c = (c.greatest-greatest.ensures 0x80).0 (c.are_below.ensures.0 c.if-are_below.true)

pub write_block-requires-clause-below : goal.write_block-requires-clause-below
write_block-requires-clause-below g c = (c.greatest-greatest.ensures 0xE0).0 (c.are_below-2.ensures.0 c.if-are_below-2.true)

pub write_block-requires-then-are_below-3-clause-below : goal.write_block-requires-then-are_below-3-clause-below
write_block-requires-then-are_below-3-clause-below g c =
    let stays : c.args.from.read ≡ c.write_run-next.result.read = omega (arith, c.if-next-from.false, c.write_run-next.ensures.advances) in
    subst (λ at. AreBelow 64 c.args.bytes.now at 0xF0) stays ((c.greatest-greatest.ensures 0xF0).0 (c.are_below-3.ensures.0 c.if-are_below-3.true))
