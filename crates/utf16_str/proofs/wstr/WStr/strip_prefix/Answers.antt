use Rattle.std.proofs.Common.{◌≡◌, ◌++◌, ◌∙◌, List, ℕ, ap, drop, refl, subst, sym, ◌↔◌}
use Rattle.std.proofs.lemmas.Bool.{false≢true}
use Rattle.std.specs.Option.{IsSome}
use Rattle.utf16_str.specs.WStr.{wstr_bytes, wstr_text}
use Rattle.utf16_str.proofs.AffixLemmas.{IsCutBetween, cut_between, prefix_text}
use Rattle.utf16_str.proofs.wstr.WStr.strip_prefix.Given.{Over}
use Rattle.utf16_str.proofs.wstr.WStr.strip_prefix.Goals as goal
use Rattle.utf16_str.proofs.wstr.WStr.strip_prefix.Goals.{In_ok-len}

begins : (g : Over) (c : In_ok-len g) → (rest : List ℕ) × (wstr_text c.args.self ≡ g.P.Pattern.part c.args.prefix ++ rest)
begins g c = (prefix_text g.E.Utf16Order.BIG (wstr_text c.args.self) c.as_bytes.result.now (g.P.Pattern.part c.args.prefix) c.as_bytes.ensures.encoding c.in_ok-len.ensures.scalars).0 (c.in_ok-len.ensures.some.0 refl)

cut : (g : Over) (c : In_ok-len g) → IsCutBetween (g.P.Pattern.part c.args.prefix) (begins g c).0 (wstr_text c.args.self) c.in_ok-len.len
cut g c = cut_between (g.P.Pattern.part c.args.prefix) (begins g c).0 (wstr_text c.args.self) c.in_ok-len.len (begins g c).1 (sym c.in_ok-len.ensures.len)

pub split_at-requires : goal.split_at-requires
split_at-requires g c = (cut g c).boundary

pub returns-in_err-len-clause-some : goal.returns-in_err-len-clause-some
returns-in_err-len-clause-some g c =
    let is = prefix_text g.E.Utf16Order.BIG (wstr_text c.args.self) c.as_bytes.result.now (g.P.Pattern.part c.args.prefix) c.as_bytes.ensures.encoding c.in_err-len.ensures.scalars in
    subst (λ o. IsSome o ↔ ((rest : List ℕ) × (wstr_text c.args.self ≡ g.P.Pattern.part c.args.prefix ++ rest))) (sym c.from_residual.ensures)
    (λ yes. absurd (false≢true yes), λ parts. c.in_err-len.ensures.some.1 (is.1 parts))

pub returns-clause-some : goal.returns-clause-some
returns-clause-some g c = (λ yes. begins g (goal.at.returns-clause-some g c).In_ok-len, λ parts. refl)

pub returns-clause-text : goal.returns-clause-text
returns-clause-text g c =
    sym c.split_at.ensures.joined ∙ ap (λ t. t ++ wstr_text c.split_at.result.1) (c.split_at.ensures.front ∙ (cut g (goal.at.returns-clause-text g c).In_ok-len).to)

pub returns-clause-bytes : goal.returns-clause-bytes
returns-clause-bytes g c = c.split_at.ensures.back_bytes ∙ ap (λ n. drop n (wstr_bytes c.args.self)) c.in_ok-len.ensures.len
