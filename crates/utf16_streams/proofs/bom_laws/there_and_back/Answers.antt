use Rattle.utf16_streams.proofs.BomLawProofs.{there_and_back}
use Rattle.utf16_streams.proofs.bom_laws.there_and_back.Goals as goal

pub returns : goal.returns
returns c = there_and_back
