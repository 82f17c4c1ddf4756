use Rattle.utf16_fixed.proofs.PlainLemmas.{IsWidened-fewer, IsWidened-none, widened-text}
use Rattle.utf16_fixed.proofs.plain.write_plain.Goals as goal

pub returns-clause-text : goal.returns-clause-text
returns-clause-text g c =
    let big = g.E.Utf16Order.BIG in
    let raw = c.args.raw.now in
    let to = c.args.to.now in
    widened-text big raw c.write_in_blocks.new.to c.write_in_blocks.result (c.write_in_blocks.ensures.written to (IsWidened-none big raw to)) c.type_inv.raw

pub write_in_blocks-requires-clause-fewer : goal.write_in_blocks-requires-clause-fewer
write_in_blocks-requires-clause-fewer g c before out m n few done = IsWidened-fewer g.E.Utf16Order.BIG c.args.raw.now out n done m few
