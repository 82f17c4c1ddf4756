use Rattle.std.proofs.Common.{◌≡◌, ◌∙◌, ap, subst}
use Rattle.std.specs.Prelude.{IfOk}
use Rattle.std.specs.Str.{chars}
use Rattle.utf16_units.specs.Encoding.{size}
use Rattle.utf16_units.proofs.EncodingLemmas.{size-nil}
use Rattle.utf16string.specs.WString.{wstring_capacity}
use Rattle.utf16string.proofs.wstring.WString.from_str.Goals as goal

pub returns-then-s-lt-FEW_TEXT-clause-empty : goal.returns-then-s-lt-FEW_TEXT-clause-empty
unfolding chars
returns-then-s-lt-FEW_TEXT-clause-empty g c none =
    subst (λ n. IfOk c.from_few.result (λ s. wstring_capacity s ≡ n)) (ap (λ s. size (chars s)) none ∙ size-nil) c.from_few.ensures.exact
