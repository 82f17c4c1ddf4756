use Rattle.std.proofs.Common.{false, ◌^◌, ◌∙◌, refl}
use lib.Lanes.{digits_l, number_l}
use Rattle.utf16_units.proofs.BlockUnits.{units-read}
use Rattle.utf16_fixed.proofs.PairLemmas.{digits-fit, halved-read}
use Rattle.utf16_fixed.proofs.pairs.halved.Goals as goal

pub returns : goal.returns
returns c =
    let number = number_l (2 ^ 32) c.args.pairs in
    units-read false 16 (digits_l 256 32 number) refl (digits-fit 32 number) ∙ halved-read 8 c.args.pairs c.fits-pairs.0 c.fits-pairs.1
