use Rattle.std.proofs.Common.{◌∙◌}
use Rattle.utf16_str.specs.WStr.{wstr_text}
use Rattle.utf16_str.proofs.PredicateCuts.{cut-around}
use Rattle.utf16_str.proofs.wstr.WStr.cut_at.Goals as goal

pub returns : goal.returns
returns g c front back d split offset =
    let is = cut-around (wstr_text c.args.self) _ _ _ c.args.at c.next.result c.split_at.ensures.front (c.chars-chars.ensures.text ∙ c.split_at.ensures.back) c.next.ensures.steps front back d split offset in
    (is.0, c.as_wstr.ensures ∙ is.1)
