use Rattle.std.proofs.Common.{◌≡◌, ◌++◌, ◌∙◌, ap, take}
use Rattle.std.specs.Str.{chars}
use Rattle.utf16_units.specs.Encoding.{encode, text_of}
use Rattle.utf16string.proofs.Converted.{converted-IsUtf16, converted-text}
use Rattle.utf16string.proofs.wstring.WString.from_short.Given.{Over}
use Rattle.utf16string.proofs.wstring.WString.from_short.Goals as goal
use Rattle.utf16string.proofs.wstring.WString.from_short.Goals.{In_ok-extend_from_slice}

-- what was written on the stack was appended to nothing
written : (g : Over) (c : In_ok-extend_from_slice g) → c.extend_from_slice.new.self.items ≡ encode g.E.Utf16Order.BIG (chars c.args.s.now)
written g c =
    c.in_ok-extend_from_slice.ensures.items ∙ ap (λ bytes. bytes ++ take c.write_text-end.result c.write_text-end.new.out) c.in_ok-raw.ensures.items
    ∙ c.write_text-end.ensures.bytes
    ∙ ap (λ bytes. encode g.E.Utf16Order.BIG (chars bytes)) c.as_bytes.ensures.value

pub from_utf16_unchecked-requires : goal.from_utf16_unchecked-requires
from_utf16_unchecked-requires g c =
    converted-IsUtf16 g.E.Utf16Order.BIG c.args.s.now _ c.utf8.s (written g (goal.at.from_utf16_unchecked-requires g c).In_ok-extend_from_slice)

pub returns : goal.returns
returns g c =
    ap (λ v. text_of g.E.Utf16Order.BIG v.items) c.from_utf16_unchecked.ensures.vec
    ∙ converted-text g.E.Utf16Order.BIG c.args.s.now _ c.utf8.s (written g (goal.at.returns g c).In_ok-extend_from_slice)
