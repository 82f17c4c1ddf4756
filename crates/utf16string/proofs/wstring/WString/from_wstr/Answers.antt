use Rattle.std.proofs.Common.{◌∙◌, sym, rules}
use Rattle.utf16_units.proofs.EncodingLemmas.{IsUtf16-from_is_utf16, nil-from_text}
use Rattle.utf16string.proofs.wstring.WString.from_wstr.Goals as goal

pub returns-then-is_empty-clause-bytes : goal.returns-then-is_empty-clause-bytes
returns-then-is_empty-clause-bytes g c =
    c.new.ensures.bytes ∙ sym (nil-from_text _ _ (IsUtf16-from_is_utf16 _ _ c.args.text.well_formed) (c.is_empty.ensures.empty.0 c.if-is_empty.true))

pub from_utf16_unchecked-requires : goal.from_utf16_unchecked-requires
from_utf16_unchecked-requires g c = search rules

pub returns-clause-text : goal.returns-clause-text
returns-clause-text g c = search rules

pub returns-clause-bytes : goal.returns-clause-bytes
returns-clause-bytes g c = search rules
