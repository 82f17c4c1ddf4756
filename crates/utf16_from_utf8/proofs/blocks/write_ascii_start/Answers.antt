use Rattle.std.proofs.Common.{rules}
use Rattle.utf16_from_utf8.proofs.WrittenLemmas.{ascii-first}
use Rattle.utf16_from_utf8.proofs.blocks.write_ascii_start.Goals as goal

pub returns : goal.returns
returns g c =
    let ascii = c.write_ascii-len.ensures in
    ascii-first g.E.Utf16Order.BIG c.args.bytes.now c.write_ascii-len.new.out c.min-most.result c.write_ascii-len.result ascii.within ascii.ascii ascii.bytes (search rules)
