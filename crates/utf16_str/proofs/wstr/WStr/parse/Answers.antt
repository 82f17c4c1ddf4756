use Rattle.std.proofs.Common.{ap, arith, length, sym}
use Rattle.utf16_units.specs.Encoding.{text_of}
use Rattle.utf16_units.proofs.EncodingLemmas.{IsUtf16-from_Encodes, IsUtf16-from_is_utf16, all_scalars-from_All, length-text, scalars-text_of}
use Rattle.utf16_str.specs.WStr.{wstr_bytes, wstr_text}
use Rattle.utf16_str.proofs.Utf8Size.{size-le-encodes}
use Rattle.utf16_str.proofs.wstr.WStr.parse.Goals as goal

pub write_utf8-len-requires-clause-well_formed : goal.write_utf8-len-requires-clause-well_formed
write_utf8-len-requires-clause-well_formed g c = IsUtf16-from_Encodes _ _ _ c.as_bytes-raw.ensures.encoding

pub returns-then-raw : goal.returns-then-raw
returns-then-raw g c =
    let big = g.E.Utf16Order.BIG in
    let bytes = wstr_bytes c.args.self in
    omega (arith, size-le-encodes (wstr_text c.args.self), length-text big bytes (IsUtf16-from_is_utf16 big bytes c.args.self.well_formed), ap length c.as_bytes-raw.ensures.bytes)

pub from_utf8_unchecked-utf8-requires : goal.from_utf8_unchecked-utf8-requires
from_utf8_unchecked-utf8-requires g c =
    let big = g.E.Utf16Order.BIG in
    let raw = c.as_bytes-raw.result.now in
    let scalars = scalars-text_of big raw (IsUtf16-from_Encodes _ _ _ c.as_bytes-raw.ensures.encoding) in
    (text_of big raw, (all_scalars-from_All (text_of big raw) scalars, sym c.write_utf8-len.ensures.utf8))
