use Rattle.utf16_to_utf8.proofs.PaddedLemmas.{moved_row}
use Rattle.utf16_to_utf8.proofs.padded.last_places.Goals as goal

pub returns : goal.returns
returns c = moved_row c.args.len c.requires
