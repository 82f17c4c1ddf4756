use Rattle.std.proofs.Common.{◌∙◌, ◌++◌, List, ℕ, ap, refl, sym}
use Rattle.std.proofs.lemmas.Bool.{false≢true}
use Rattle.utf16_units.specs.Encoding.{text_of}
use Rattle.utf16_units.proofs.EncodingLemmas.{text_of-nil}
use Rattle.utf16string.specs.Replace.{replaced_first}
use Rattle.utf16_str.specs.WStr.{wstr_text}
use Rattle.utf16string.proofs.wstring.WString.replacen.Goals as goal

pub returns-in_err-push_replaced-clause-nothing : goal.returns-in_err-push_replaced-clause-nothing
returns-in_err-push_replaced-clause-nothing g c none =
    absurd (false≢true (c.in_err-push_replaced.ensures.nothing (ap (replaced_first c.args.count (g.P.Pattern.part c.args.from) (wstr_text c.args.to)) c.as_wstr.ensures.text ∙ none)).0)

pub returns : goal.returns
returns g c =
    let whole : List ℕ → List ℕ = replaced_first c.args.count (g.P.Pattern.part c.args.from) (wstr_text c.args.to) in
    let text = c.in_ok-push_replaced.ensures.text ∙ ap (λ t. t ++ whole (wstr_text c.as_wstr.result)) c.new-made.ensures.text in
    record {
      text = text ∙ ap whole c.as_wstr.ensures.text;
      nothing = λ none. refl;
      empty = λ none. (c.in_ok-push_replaced.ensures.nothing (sym text ∙ ap (text_of g.E.Utf16Order.BIG) none ∙ text_of-nil g.E.Utf16Order.BIG)).1 ∙ c.new-made.ensures.capacity;
    }
