use Rattle.std.proofs.Common.{◌-◌, ◌∙◌, length, arith, sym, inr, true≢false}
use Rattle.std.proofs.lemmas.Simd.{get_or-chunk}
use Rattle.utf16_from_utf8.proofs.AsciiLemmas.{chunk-ascii, last-written}
use Rattle.utf16_from_utf8.proofs.ascii.write_last_block.Goals as goal

pub write_narrow_block-requires-clause-ascii : goal.write_narrow_block-requires-clause-ascii
write_narrow_block-requires-clause-ascii g c i below =
    omega (arith, get_or-chunk (length c.args.bytes.now - 16) 16 c.args.bytes.now i 0 below, c.is_ascii.ensures.0 c.if-not-is_ascii.false i below)

pub returns-then-not-is_ascii-clause-whole : goal.returns-then-not-is_ascii-clause-whole
returns-then-not-is_ascii-clause-whole g c ascii =
    absurd (true≢false (sym (c.is_ascii.ensures.1 (chunk-ascii c.args.bytes.now (length c.args.bytes.now - 16) ascii)) ∙ c.if-not-is_ascii.true))

pub returns-clause-written : goal.returns-clause-written
returns-clause-written g c before done =
    last-written g.E.Utf16Order.BIG c.args.bytes.now before c.args.out.now c.write_narrow_block.new.out c.args.at (length c.args.bytes.now - 16) c.write_narrow_block.result
    (omega (arith, c.requires.few)) (omega (arith, c.write_narrow_block.ensures.at, c.requires.some, c.requires.within)) (c.write_narrow_block.ensures.written c.args.out.now) done

pub returns-clause-whole : goal.returns-clause-whole
returns-clause-whole g c ascii = omega (arith, c.write_narrow_block.ensures.at, c.requires.some)

pub returns-clause-either : goal.returns-clause-either
returns-clause-either g c = inr (omega (arith, c.write_narrow_block.ensures.at, c.requires.some))
