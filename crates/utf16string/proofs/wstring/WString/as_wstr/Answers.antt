use Rattle.std.proofs.Common.{◌≡◌, true, subst, sym}
use Rattle.utf16_units.specs.Encoding.{is_utf16}
use Rattle.utf16_units.proofs.EncodingLemmas.{IsUtf16-from_is_utf16}
use Rattle.utf16string.proofs.wstring.WString.as_wstr.Goals as goal

pub from_utf16_unchecked-requires : goal.from_utf16_unchecked-requires
from_utf16_unchecked-requires g c = IsUtf16-from_is_utf16 _ _ (subst (λ bytes. is_utf16 g.E.Utf16Order.BIG bytes ≡ true) (sym c.deref.ensures.value) c.args.self.now.well_formed)
