use Rattle.std.proofs.Common.{◌≡◌, ◌++◌, ◌∙◌, List, ℕ, ap, subst, sym}
use Rattle.std.specs.Result.{OnOk}
use Rattle.utf16_str.specs.WStr.{wstr_text}
use Rattle.utf16string.specs.Replace.{replaced_first}
use Rattle.utf16string.specs.WString.{wstring_text}
use Rattle.utf16_str.proofs.CutFront.{no_part, no_size}
use Rattle.utf16string.proofs.wstring.replaces.push_replaced.Goals as goal

pub push_around-requires : goal.push_around-requires
push_around-requires g c none = c.if-encoded_len-eq0.false (c.encoded_len.ensures ∙ no_size _ none)

pub returns-then-encoded_len-eq0 : goal.returns-then-encoded_len-eq0
returns-then-encoded_len-eq0 g c =
    let none = no_part (g.P.Pattern.part c.args.from) (sym c.encoded_len.ensures ∙ c.if-encoded_len-eq0.true) in
    let whole : List ℕ → List ℕ = λ part. replaced_first c.args.count part (wstr_text c.args.to) (wstr_text c.args.text) in
    record {
      text = subst (λ part. OnOk c.push_between.result (wstring_text c.push_between.new.made ≡ wstring_text c.args.made.now ++ whole part)) (sym none) c.push_between.ensures.text;
      nothing = λ empty. c.push_between.ensures.nothing (ap whole (sym none) ∙ empty);
    }
