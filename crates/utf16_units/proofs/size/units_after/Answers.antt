use Rattle.std.proofs.Common.{◌+◌, ◌∙◌, ap₂}
use Rattle.utf16_units.proofs.SizeLemmas.{char-bits, four-bits, ones-begun}
use Rattle.utf16_units.proofs.size.units_after.Goals as goal

pub returns : goal.returns
returns g c =
    let block = c.args.block in
    let few = c.requires.few in
    let long = c.fits-block.0 in
    ap₂ (λ m n. m + n) c.set_after.ensures c.set_after-2.ensures ∙ ones-begun c.args.skip block _ _ (char-bits g.row.N block few long) (four-bits g.row.N block few long)
