use Rattle.utf16_wtf8.proofs.LawProofs.{returns_to_wtf8}
use Rattle.utf16_wtf8.proofs.laws.returns_to_wtf8.Goals as goal

pub returns : goal.returns
returns c = returns_to_wtf8
