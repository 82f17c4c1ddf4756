use Rattle.utf16_units.proofs.EncodingLemmas.{IsUtf16-from_Encodes}
use Rattle.utf16_str.proofs.wstr.WStr.push_utf8.Goals as goal

pub append_utf8-requires : goal.append_utf8-requires
append_utf8-requires g c = IsUtf16-from_Encodes _ _ _ c.as_bytes.ensures.encoding

pub returns-clause-text : goal.returns-clause-text
returns-clause-text g c = rw c.as_bytes.ensures.bytes at c.append_utf8.ensures.text

pub returns-clause-err : goal.returns-clause-err
returns-clause-err g c = c.append_utf8.ensures.err
