use Rattle.utf16_wtf8.proofs.LawProofs.{len_is_few}
use Rattle.utf16_wtf8.proofs.laws.len_is_few.Goals as goal

pub returns : goal.returns
returns c = len_is_few
