use Rattle.std.proofs.Common.{sym, ◌∙◌, arith, true≢false}
use Rattle.std.proofs.lemmas.Simd.{get_or-chunk}
use Rattle.utf16_from_utf8.proofs.AsciiLemmas.{next-ascii}
use Rattle.utf16_from_utf8.proofs.ascii.write_narrow_blocks.Goals as goal

pub write_narrow_block-at-requires-clause-ascii : goal.write_narrow_block-at-requires-clause-ascii
write_narrow_block-at-requires-clause-ascii g c i below =
    omega (arith, get_or-chunk c.loop-at.at 16 c.args.bytes.now i 0 below, c.is_ascii.ensures.0 c.if-not-is_ascii.false i below)

pub returns-then-not-is_ascii-clause-stop : goal.returns-then-not-is_ascii-clause-stop
returns-then-not-is_ascii-clause-stop g c more ascii =
    true≢false (sym (c.is_ascii.ensures.1 (next-ascii c.args.bytes.now c.loop-at.at ascii)) ∙ c.if-not-is_ascii.true)
