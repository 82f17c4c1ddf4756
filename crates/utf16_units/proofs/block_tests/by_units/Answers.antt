use Rattle.utf16_units.proofs.EncodingLemmas.{IsUtf16-nil}
use Rattle.utf16_units.proofs.block_tests.by_units.Goals as goal

pub valid_len_from-requires-clause-well_formed_before : goal.valid_len_from-requires-clause-well_formed_before
valid_len_from-requires-clause-well_formed_before g c = IsUtf16-nil g.E.Utf16Order.BIG
