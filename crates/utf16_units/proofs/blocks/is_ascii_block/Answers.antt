use Rattle.utf16_units.proofs.AsciiLemmas.{ascii_block}
use Rattle.utf16_units.proofs.blocks.is_ascii_block.Goals as goal

pub returns : goal.returns
returns g c = ascii_block g.E.Utf16Order.BIG c.args.block _ c.fits-block.0 c.write_unit-last.ensures
