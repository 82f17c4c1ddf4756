use Rattle.std.proofs.Common.{◌≡◌, ◌↔◌, ◌∙◌, ap₂, subst}
use Rattle.std.specs.Cmp.Lexicographic.{slice_cmp}
use Rattle.std.specs.Ordering.{nat_cmp}
use Rattle.std.specs.declared.cmp.Ordering.TheVariants.{Greater, Less}
use Rattle.utf16_units.specs.TextOrder.{IsBefore}
use Rattle.utf16_str.specs.WStr.{wstr_text}
use Rattle.utf16string.specs.WString.{wstring_text}
use Rattle.utf16string.proofs.wstring.cmp.WStringOrd.cmp.Goals as goal

pub returns-clause-cmp : goal.returns-clause-cmp
returns-clause-cmp g c = c.cmp.ensures.cmp ∙ ap₂ (slice_cmp nat_cmp) c.as_wstr.ensures.text c.as_wstr-2.ensures.text

pub returns-clause-less : goal.returns-clause-less
returns-clause-less g c =
    subst (λ x. c.cmp.result ≡ Less ↔ IsBefore x (wstring_text c.args.other.now)) c.as_wstr.ensures.text
    (subst (λ y. c.cmp.result ≡ Less ↔ IsBefore (wstr_text c.as_wstr.result) y) c.as_wstr-2.ensures.text c.cmp.ensures.less)

pub returns-clause-greater : goal.returns-clause-greater
returns-clause-greater g c =
    subst (λ x. c.cmp.result ≡ Greater ↔ IsBefore (wstring_text c.args.other.now) x) c.as_wstr.ensures.text
    (subst (λ y. c.cmp.result ≡ Greater ↔ IsBefore y (wstr_text c.as_wstr.result)) c.as_wstr-2.ensures.text c.cmp.ensures.greater)
