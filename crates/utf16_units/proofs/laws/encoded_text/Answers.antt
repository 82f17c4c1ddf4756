use Rattle.utf16_units.proofs.LawProofs.{encoded_text}
use Rattle.utf16_units.proofs.laws.encoded_text.Goals as goal

pub returns : goal.returns
returns c = encoded_text
