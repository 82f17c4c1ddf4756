use Rattle.std.proofs.Common.{◌≡◌, ◌↔◌, ◌+◌, ◌-◌, ◌++◌, ◌∙◌, List, ℕ, ap, arith, length, refl, subst, sym, take}
use Rattle.std.proofs.lemmas.Bool.{false≢true}
use Rattle.std.specs.Option.{IsSome}
use Rattle.utf16_units.specs.Encoding.{size}
use Rattle.utf16_units.proofs.EncodingLemmas.{size-append}
use Rattle.utf16_str.specs.WStr.{wstr_bytes, wstr_text}
use Rattle.utf16_str.proofs.AffixLemmas.{IsCutBetween, cut_between, suffix_text}
use Rattle.utf16_str.proofs.wstr.WStr.strip_suffix.Given.{Over}
use Rattle.utf16_str.proofs.wstr.WStr.strip_suffix.Goals as goal
use Rattle.utf16_str.proofs.wstr.WStr.strip_suffix.Goals.{After-len}

ends : (g : Over) (c : After-len g) → (front : List ℕ) × (wstr_text c.args.self ≡ front ++ g.P.Pattern.part c.args.suffix)
ends g c =
    (suffix_text g.E.Utf16Order.BIG (wstr_text c.args.self) c.as_bytes.result.now (g.P.Pattern.part c.args.suffix) c.as_bytes.ensures.encoding c.in_ok-len.ensures.scalars).0
    (c.in_ok-len.ensures.some.0 refl)

sizes : (g : Over) (c : After-len g) → c.len.result ≡ size (ends g c).0 + c.in_ok-len.len
sizes g c =
    let parts = ends g c in
    omega (arith, c.len.ensures.size, c.in_ok-len.ensures.len, ap size parts.1, size-append parts.0 (g.P.Pattern.part c.args.suffix))

cut : (g : Over) (c : After-len g) → IsCutBetween (ends g c).0 (g.P.Pattern.part c.args.suffix) (wstr_text c.args.self) (c.len.result - c.in_ok-len.len)
cut g c =
    let parts = ends g c in
    cut_between parts.0 (g.P.Pattern.part c.args.suffix) (wstr_text c.args.self) (c.len.result - c.in_ok-len.len) parts.1 (omega (arith, sizes g c))

pub overflow_sub-len : goal.overflow_sub-len
overflow_sub-len g c = omega (arith, sizes g c)

pub split_at-requires : goal.split_at-requires
split_at-requires g c = (cut g c).boundary

pub returns-in_err-len-clause-some : goal.returns-in_err-len-clause-some
returns-in_err-len-clause-some g c =
    let is = suffix_text g.E.Utf16Order.BIG (wstr_text c.args.self) c.as_bytes.result.now (g.P.Pattern.part c.args.suffix) c.as_bytes.ensures.encoding c.in_err-len.ensures.scalars in
    subst (λ o. IsSome o ↔ ((front : List ℕ) × (wstr_text c.args.self ≡ front ++ g.P.Pattern.part c.args.suffix))) (sym c.from_residual.ensures)
    (λ yes. absurd (false≢true yes), λ parts. c.in_err-len.ensures.some.1 (is.1 parts))

pub returns-clause-some : goal.returns-clause-some
returns-clause-some g c = (λ yes. ends g (goal.at.returns-clause-some g c).After-len, λ parts. refl)

pub returns-clause-text : goal.returns-clause-text
returns-clause-text g c =
    sym c.split_at.ensures.joined ∙ ap (λ t. wstr_text c.split_at.result.0 ++ t) (c.split_at.ensures.back ∙ (cut g (goal.at.returns-clause-text g c).After-len).from)

pub returns-clause-bytes : goal.returns-clause-bytes
returns-clause-bytes g c =
    let start : c.len.result - c.in_ok-len.len ≡ length (wstr_bytes c.args.self) - size (g.P.Pattern.part c.args.suffix) =
    omega (arith, c.len.ensures.bytes, c.in_ok-len.ensures.len) in
    c.split_at.ensures.front_bytes ∙ ap (λ n. take n (wstr_bytes c.args.self)) start
