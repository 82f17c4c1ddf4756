use Rattle.utf16_units.proofs.EncodingLemmas.{IsUtf16-from_is_utf16}
use Rattle.utf16_str.proofs.wstr_mut.WStrMut.as_wstr.Goals as goal

pub from_utf16_unchecked-requires : goal.from_utf16_unchecked-requires
from_utf16_unchecked-requires g c = IsUtf16-from_is_utf16 _ _ c.args.self.now.well_formed
