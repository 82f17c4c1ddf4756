use Rattle.std.proofs.Common.{◌≡◌, ◌∙◌, ◌++◌, ◌*◌, ap, arith, subst, sym}
use Rattle.std.specs.List.{repeat}
use Rattle.utf16_units.specs.Encoding.{IsUtf16, text_of}
use Rattle.utf16_units.proofs.EditLemmas.{Encodes-checked}
use Rattle.utf16_units.proofs.EncodingLemmas.{IsUtf16-from_Encodes, text_of-Encodes}
use Rattle.utf16string.specs.WString.{wstring_bytes, wstring_text}
use Rattle.utf16string.proofs.Repeated.{Encodes-repeat, repeat-more, repeat-none}
use Rattle.utf16string.proofs.wstring.WString.repeat.Goals as goal

pub returns-then-len-eq0-clause-text : goal.returns-then-len-eq0-clause-text
returns-then-len-eq0-clause-text g c =
    let none : c.len.result * c.args.n ≡ 0 = grind arith in
    c.new.ensures.text ∙ repeat-none c.args.n (wstring_text c.args.self.now) (ap (λ len. len * c.args.n) (sym c.len.ensures.size) ∙ none)

pub loop-preserved : goal.loop-preserved
loop-preserved g c = (
  c.in_ok-extend_from_slice.ensures.items ∙ ap (λ t. t ++ c.as_bytes.result.now) c.loop.invariant.0 ∙ ap (λ t. repeat c.loop.counter (wstring_bytes c.args.self.now) ++ t) c.as_bytes.ensures.bytes ∙ repeat-more c.loop.counter (wstring_bytes c.args.self.now),
  omega (arith, c.in_ok-extend_from_slice.ensures.capacity),
)

pub from_utf16_unchecked-requires : goal.from_utf16_unchecked-requires
from_utf16_unchecked-requires g c =
    subst (IsUtf16 g.E.Utf16Order.BIG) (sym c.loop.invariant.0) (IsUtf16-from_Encodes _ _ _ (Encodes-repeat _ _ _ _ (Encodes-checked _ _ c.args.self.now.well_formed)))

pub returns-clause-text : goal.returns-clause-text
returns-clause-text g c =
    let same : c.loop.counter ≡ c.args.n = omega arith in
    ap (λ v. text_of g.E.Utf16Order.BIG v.items) c.from_utf16_unchecked.ensures.vec
    ∙ ap (text_of g.E.Utf16Order.BIG) c.loop.invariant.0
    ∙ text_of-Encodes _ _ _ (Encodes-repeat _ _ _ _ (Encodes-checked _ _ c.args.self.now.well_formed))
    ∙ ap (λ n. repeat n (wstring_text c.args.self.now)) same
