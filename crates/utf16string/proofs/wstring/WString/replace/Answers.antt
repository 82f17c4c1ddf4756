use Rattle.std.proofs.Common.{◌∙◌, arith}
use Rattle.std.proofs.lemmas.Result.{IfOk-weaker}
use Rattle.utf16_units.proofs.EncodingLemmas.{IsUtf16-from_is_utf16, length-text}
use Rattle.utf16string.specs.WString.{wstring_text}
use Rattle.utf16string.proofs.ReplacedAll.{replaced-all, size-double}
use Rattle.utf16string.proofs.wstring.WString.replace.Goals as goal

pub returns : goal.returns
returns g c =
    let text = wstring_text c.args.self.now in
    let long = length-text _ _ (IsUtf16-from_is_utf16 _ _ c.args.self.now.well_formed) in
    let few = size-double text in
    let bound = c.args.self.now.raw.ok in
    let all = replaced-all _ _ _ _ text (omega (arith, few, long)) (omega arith) in
    record {
      text = IfOk-weaker c.replacen.result _ _ (λ s e. e ∙ all) c.replacen.ensures.text;
      nothing = λ none. c.replacen.ensures.nothing (all ∙ none);
      empty = c.replacen.ensures.empty;
    }
