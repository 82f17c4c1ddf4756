use Rattle.utf16_to_utf8.proofs.NarrowLemmas.{none-above}
use Rattle.utf16_to_utf8.proofs.blocks.are_below.Goals as goal

pub returns : goal.returns
returns c none = none-above c.args.units c.args.limit c.requires.limit c.fits-units.1 (c.have_none.ensures none)
