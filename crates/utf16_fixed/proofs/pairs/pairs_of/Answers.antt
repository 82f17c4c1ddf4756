use Rattle.std.proofs.Common.{◌∙◌, ap, length, map}
use Rattle.std.proofs.lemmas.List.{length-map}
use Rattle.utf16_fixed.specs.Pairs.{pair_of, pair_offset}
use Rattle.utf16_fixed.proofs.PairLemmas.{offsets-lanes, pairs-lanes}
use Rattle.utf16_fixed.proofs.pairs.pairs_of.Goals as goal

pub returns : goal.returns
returns c =
    let long = c.fits-chars.0 in
    let offsets = offsets-lanes c.args.chars long in
    pairs-lanes _ (ap length offsets ∙ length-map c.args.chars pair_offset ∙ long) ∙ ap (map pair_of) offsets
