use Rattle.std.proofs.Common.{◌-◌, arith}
use Rattle.utf16_from_utf8.specs.declared.short.TheConstants.{FILL}
use Rattle.utf16_from_utf8.proofs.ShortLemmas.{filled-lanes, part-index}
use Rattle.utf16_from_utf8.proofs.short.filled.Goals as goal

pub returns : goal.returns
returns c =
    let from = 16 - c.args.len in
    filled-lanes c.args.len c.args.block c.greater.result c.requires c.fits-block.0 c.fits-block.1 _ (λ i b. part-index from (32 - from) FILL i b (omega (arith, c.requires, b))) c.greater.ensures
