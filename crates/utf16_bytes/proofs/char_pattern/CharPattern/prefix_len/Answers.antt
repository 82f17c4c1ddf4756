use Rattle.std.proofs.Common.{[], arith}
use Rattle.utf16_units.proofs.EncodingLemmas.{size-cons, size-nil}
use Rattle.utf16_bytes.proofs.AffixTests.{begins_is, char_part, tested-len, tested-some}
use Rattle.utf16_bytes.proofs.char_pattern.CharPattern.prefix_len.Goals as goal

pub returns-clause-some : goal.returns-clause-some
returns-clause-some g c =
    let encoded = c.encode_utf16_into-len in
    let part = char_part g.E.Utf16Order.BIG c.args.self encoded.result encoded.new.buf _ encoded.ensures.len encoded.ensures.bytes in
    tested-some _ _ _ _ c.then_some.ensures (begins_is _ _ _ _ c.starts_with.ensures.value part)

pub returns-clause-len : goal.returns-clause-len
returns-clause-len g c =
    tested-len _ _ _ _ c.then_some.ensures (omega (arith, c.encode_utf16_into-len.ensures.len, size-cons c.args.self [], size-nil))
