use Rattle.utf16_fixed.proofs.BasicLemmas.{IsNarrowed-fewer, IsNarrowed-none, narrowed-text}
use Rattle.utf16_fixed.proofs.basic.write_basic.Goals as goal

pub write_in_blocks-requires-clause-fewer : goal.write_in_blocks-requires-clause-fewer
write_in_blocks-requires-clause-fewer g c before out m n few done = IsNarrowed-fewer g.E.Utf16Order.BIG c.args.utf32.now out n done m few

pub returns-clause-text : goal.returns-clause-text
returns-clause-text g c =
    let big = g.E.Utf16Order.BIG in
    let utf32 = c.args.utf32.now in
    let to = c.args.to.now in
    narrowed-text big utf32 c.write_in_blocks.new.to c.write_in_blocks.result (c.write_in_blocks.ensures.written to (IsNarrowed-none big utf32 to))
