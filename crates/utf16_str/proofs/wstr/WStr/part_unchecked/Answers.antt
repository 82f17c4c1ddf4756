use Rattle.std.proofs.Common.{◌-◌, ◌∙◌, ap, arith, length, take, drop}
use Rattle.utf16_units.specs.Boundary.{text_between}
use Rattle.utf16_units.specs.Encoding.{Encodes, text_of}
use Rattle.utf16_units.proofs.BoundaryLemmas.{Encodes-between, IsBoundary-within}
use Rattle.utf16_units.proofs.EncodingLemmas.{IsUtf16-from_Encodes, IsUtf16-from_is_utf16, length-text, text_of-Encodes}
use Rattle.utf16_str.specs.WStr.{wstr_bytes, wstr_text}
use Rattle.utf16_str.proofs.wstr.WStr.part_unchecked.Given.{Over}
use Rattle.utf16_str.proofs.wstr.WStr.part_unchecked.Goals as goal
use Rattle.utf16_str.proofs.wstr.WStr.part_unchecked.Goals.{After-as_bytes}

part : (g : Over) (c : After-as_bytes g)
    → Encodes g.E.Utf16Order.BIG (text_between (wstr_text c.args.self) c.args.start c.args.end) (take (c.args.end - c.args.start) (drop c.args.start c.as_bytes.result.now))
part g c =
    Encodes-between g.E.Utf16Order.BIG (wstr_text c.args.self) c.as_bytes.result.now c.args.start c.args.end c.as_bytes.ensures.encoding
    c.requires.0 c.requires.1 c.requires.2

pub slice_bounds-from_utf16_unchecked-end : goal.slice_bounds-from_utf16_unchecked-end
slice_bounds-from_utf16_unchecked-end g c =
    let long = length-text g.E.Utf16Order.BIG (wstr_bytes c.args.self) (IsUtf16-from_is_utf16 _ _ c.args.self.well_formed) in
    let same = ap length c.as_bytes.ensures.bytes in
    omega (arith, long, same, IsBoundary-within (wstr_text c.args.self) c.args.end c.requires.2)

pub from_utf16_unchecked-requires : goal.from_utf16_unchecked-requires
from_utf16_unchecked-requires g c = IsUtf16-from_Encodes _ _ _ (part g (goal.at.from_utf16_unchecked-requires g c).After-as_bytes)

pub returns-clause-text : goal.returns-clause-text
returns-clause-text g c =
    ap (text_of g.E.Utf16Order.BIG) c.from_utf16_unchecked.ensures.bytes ∙ text_of-Encodes _ _ _ (part g (goal.at.returns-clause-text g c).After-as_bytes)
