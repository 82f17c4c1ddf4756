use Rattle.utf16_bytes.proofs.SwapLemmas.{swapped-picked}
use Rattle.utf16_bytes.proofs.swap.swapped.Goals as goal

pub returns : goal.returns
returns c = swapped-picked 32 c.args.block c.args.block c.fits-block.0
