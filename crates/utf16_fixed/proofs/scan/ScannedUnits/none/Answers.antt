use Rattle.utf16_fixed.proofs.GreatestLemmas.{IsScanOf-none}
use Rattle.utf16_fixed.proofs.scan.ScannedUnits.none.Goals as goal

pub returns : goal.returns
returns c = IsScanOf-none
