use Rattle.std.proofs.Common.{◌≡◌, ◌↔◌, ◌++◌, ◌∙◌, IsTrue, List, ℕ, nat_eq, refl, sym}
use Rattle.std.specs.List.{ends_with}
use Rattle.utf16_bytes.proofs.AffixTests.{ends_is_part}
use Rattle.utf16_str.specs.WStr.{wstr_text}
use Rattle.utf16_str.proofs.AffixLemmas.{suffix_text}
use Rattle.utf16_str.proofs.FoundLemmas.{same_answer}
use Rattle.utf16_str.proofs.wstr.WStr.ends_with.Given.{Over}
use Rattle.utf16_str.proofs.wstr.WStr.ends_with.Goals as goal
use Rattle.utf16_str.proofs.wstr.WStr.ends_with.Goals.{After-is_some}

is : (g : Over) (c : After-is_some g) → IsTrue c.is_some.result ↔ ((front : List ℕ) × (wstr_text c.args.self.now ≡ front ++ g.P.Pattern.part c.args.suffix))
is g c =
    let by_text = suffix_text g.E.Utf16Order.BIG (wstr_text c.args.self.now) c.as_bytes.result.now (g.P.Pattern.part c.args.suffix) c.as_bytes.ensures.encoding c.suffix_len.ensures.scalars in (
      λ yes. by_text.0 (c.suffix_len.ensures.some.0 (sym c.is_some.ensures ∙ yes)),
      λ parts. c.is_some.ensures ∙ c.suffix_len.ensures.some.1 (by_text.1 parts),
    )

pub returns-clause-ends : goal.returns-clause-ends
returns-clause-ends g c = is g (goal.at.returns-clause-ends g c).After-is_some

pub returns-clause-value : goal.returns-clause-value
returns-clause-value g c =
    let text = wstr_text c.args.self.now in
    let part = g.P.Pattern.part c.args.suffix in
    same_answer c.is_some.result (ends_with nat_eq text part) (is g (goal.at.returns-clause-value g c).After-is_some) (ends_is_part text part part (ends_with nat_eq text part) refl refl)
