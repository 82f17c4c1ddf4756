use Rattle.utf16_units.proofs.SurrogateLemmas.{class_bits-highs}
use Rattle.utf16_units.proofs.surrogates.class_bits.Goals as goal

pub returns : goal.returns
returns g c = class_bits-highs c.args.units c.high_bytes.result g.row.N c.args.mask c.args.class c.fits-units.0 c.requires c.high_bytes.ensures
