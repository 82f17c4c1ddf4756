use Rattle.std.proofs.Common.{refl}
use Rattle.utf16_to_utf8.proofs.pack.low_words.Goals as goal

pub returns : goal.returns
returns c = refl
