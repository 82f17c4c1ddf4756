use Rattle.std.proofs.Common.{◌≡◌, ◌∙◌, ◌-◌, ◌++◌, ◌∷◌, [], ap, append_assoc, arith, refl, sym}
use Rattle.utf16_units.specs.Encoding.{size}
use Rattle.utf16_units.proofs.EncodingLemmas.{size-append, size-nil}
use Rattle.utf16_str.specs.WStr.{wstr_text}
use Rattle.utf16_str.proofs.AffixLemmas.{IsCutBetween, cut_between}
use Rattle.utf16_str.proofs.AroundLemmas.{no_last, one_end}
use Rattle.utf16_str.proofs.wstr.WStr.split_last_line.Given.{Over}
use Rattle.utf16_str.proofs.wstr.WStr.split_last_line.Goals as goal
use Rattle.utf16_str.proofs.wstr.WStr.split_last_line.Goals.{After-len-2}

pub split_at-requires : goal.split_at-requires
split_at-requires g c = (cut_between [] (wstr_text c.args.self) (wstr_text c.args.self) 0 refl size-nil).boundary

pub returns-in_default-clause-ended : goal.returns-in_default-clause-ended
returns-in_default-clause-ended g c front last is =
    let none = (cut_between [] (wstr_text c.args.self) (wstr_text c.args.self) 0 refl size-nil).to in
    absurd (no_last front last (sym (c.split_at.ensures.front ∙ none) ∙ is))

cut : (g : Over) (c : After-len-2 g) → IsCutBetween (wstr_text c.in-Some.field-0-0 ++ 10 ∷ []) (wstr_text c.in-Some.line) (wstr_text c.args.self) (c.len.result - c.len-2.result)
cut g c =
    let front = wstr_text c.in-Some.field-0-0 ++ 10 ∷ [] in
    let line = wstr_text c.in-Some.line in
    let whole : wstr_text c.args.self ≡ front ++ line = c.in-Some.ensures.split ∙ sym (append_assoc (wstr_text c.in-Some.field-0-0) (10 ∷ []) line) in
    cut_between front line (wstr_text c.args.self) (c.len.result - c.len-2.result) whole
    (omega (arith, c.len.ensures.size, c.len-2.ensures.size, ap size whole, size-append front line))

pub split_at-requires-2 : goal.split_at-requires-2
split_at-requires-2 g c = (cut g c).boundary

pub returns-clause-ended : goal.returns-clause-ended
returns-clause-ended g c front last is =
    let at = cut g (goal.at.returns-clause-ended g c).After-len-2 in
    one_end front last (wstr_text c.in-Some.field-0-0) 10 (sym is ∙ c.split_at-2.ensures.front ∙ at.to)
