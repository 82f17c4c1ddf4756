use Rattle.std.proofs.Common.{◌≡◌, ◌++◌, ◌∙◌, ap}
use Rattle.std.specs.Str.{chars}
use Rattle.utf16_units.specs.Encoding.{encode, text_of}
use Rattle.utf16string.proofs.Converted.{converted-IsUtf16, converted-text}
use Rattle.utf16string.proofs.wstring.WString.from_long.Given.{Over}
use Rattle.utf16string.proofs.wstring.WString.from_long.Goals as goal
use Rattle.utf16string.proofs.wstring.WString.from_long.Goals.{In_ok-extend_utf16}

-- the text was appended to nothing
written : (g : Over) (c : In_ok-extend_utf16 g) → c.extend_utf16.new.raw.items ≡ encode g.E.Utf16Order.BIG (chars c.args.s.now)
written g c = c.extend_utf16.ensures.items ∙ ap (λ bytes. bytes ++ encode g.E.Utf16Order.BIG (chars c.args.s.now)) c.in_ok-raw.ensures.items

pub from_utf16_unchecked-requires : goal.from_utf16_unchecked-requires
from_utf16_unchecked-requires g c =
    converted-IsUtf16 g.E.Utf16Order.BIG c.args.s.now _ c.utf8.s (written g (goal.at.from_utf16_unchecked-requires g c).In_ok-extend_utf16)

pub returns : goal.returns
returns g c =
    ap (λ v. text_of g.E.Utf16Order.BIG v.items) c.from_utf16_unchecked.ensures.vec
    ∙ converted-text g.E.Utf16Order.BIG c.args.s.now _ c.utf8.s (written g (goal.at.returns g c).In_ok-extend_utf16)
