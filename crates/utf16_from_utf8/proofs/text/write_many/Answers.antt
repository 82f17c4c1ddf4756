use Rattle.std.proofs.Common.{arith}
use Rattle.utf16_from_utf8.proofs.WellFormedLemmas.{rest-follows}
use Rattle.utf16_from_utf8.proofs.text.write_many.Goals as goal

pub returns-then-bytes-blocks-ge-SHORT_TEXT-clause-whole : goal.returns-then-bytes-blocks-ge-SHORT_TEXT-clause-whole
returns-then-bytes-blocks-ge-SHORT_TEXT-clause-whole g c utf8 room =
    let blocks = c.write_mixed_blocks-blocks in
    let more = c.if-bytes-blocks-ge-SHORT_TEXT.true in
    let done = blocks.ensures.written in
    let space = blocks.ensures.stop (omega (arith, more), rest-follows c.args.bytes.now blocks.result.read 64 utf8 done.well_formed (omega (arith, more))) in
    absurd (omega (arith, space, more, done.short, room, blocks.auto.out, c.write_ascii_start-ascii.auto.out))
