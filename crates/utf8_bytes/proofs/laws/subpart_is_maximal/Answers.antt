use Rattle.utf8_bytes.proofs.LawProofs.{subpart_is_maximal}
use Rattle.utf8_bytes.proofs.laws.subpart_is_maximal.Goals as goal

pub returns : goal.returns
returns c = subpart_is_maximal
