use Rattle.utf16_wtf8.proofs.LawProofs.{concatenates}
use Rattle.utf16_wtf8.proofs.laws.concatenates.Goals as goal

pub returns : goal.returns
returns c = concatenates
