use Rattle.utf16_fixed.proofs.GreatestLemmas.{IsScanOf-plain}
use Rattle.utf16_fixed.proofs.scan.ScannedUnits.with_plain.Goals as goal

pub returns : goal.returns
returns c before was = IsScanOf-plain before c.args.units c.args.self.trailing c.args.self.greatest was c.fits-units.0 c.requires
