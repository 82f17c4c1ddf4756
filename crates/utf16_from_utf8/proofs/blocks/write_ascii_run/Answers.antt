use Rattle.std.proofs.Common.{rules}
use Rattle.utf16_from_utf8.proofs.WrittenLemmas.{ascii-written}
use Rattle.utf16_from_utf8.proofs.blocks.write_ascii_run.Goals as goal

pub returns-clause-written : goal.returns-clause-written
returns-clause-written g c =
    let ascii = c.write_front-len.ensures.written in
    ascii-written g.E.Utf16Order.BIG c.args.bytes.now c.args.out.now c.write_front-len.new.out c.args.from.read c.args.from.written c.min-most.result c.write_front-len.result c.requires.written
    (search rules) (search rules) ascii.within ascii.ascii ascii.wrote
