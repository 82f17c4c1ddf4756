use Rattle.std.proofs.Common.{sym, ◌∙◌}
use Rattle.utf16_units.proofs.EncodingLemmas.{IsUtf16-from_is_utf16, encode-text_of}
use Rattle.utf16_bytes.proofs.AffixTests.{ends_is_part, tested-len, tested-some}
use Rattle.utf16_str.proofs.search.WStrPattern.suffix_len.Goals as goal

pub returns-clause-some : goal.returns-clause-some
returns-clause-some g c =
    let encoded = c.as_bytes.ensures.bytes ∙ sym (encode-text_of _ _ (IsUtf16-from_is_utf16 _ _ c.args.self.well_formed)) in
    tested-some _ _ _ _ c.then_some.ensures (ends_is_part _ _ _ _ c.ends_with.ensures.value encoded)

pub returns-clause-len : goal.returns-clause-len
returns-clause-len g c = tested-len _ _ _ _ c.then_some.ensures c.len.ensures.size
