use Rattle.std.proofs.Common.{◌≡◌, ◌↔◌, ◌++◌, ◌∙◌, IsTrue, List, ℕ, nat_eq, refl, sym}
use Rattle.std.specs.List.{starts_with}
use Rattle.utf16_bytes.proofs.AffixTests.{begins_is}
use Rattle.utf16_str.specs.WStr.{wstr_text}
use Rattle.utf16_str.proofs.AffixLemmas.{prefix_text}
use Rattle.utf16_str.proofs.FoundLemmas.{same_answer}
use Rattle.utf16_str.proofs.wstr.WStr.starts_with.Given.{Over}
use Rattle.utf16_str.proofs.wstr.WStr.starts_with.Goals as goal
use Rattle.utf16_str.proofs.wstr.WStr.starts_with.Goals.{After-is_some}

is : (g : Over) (c : After-is_some g) → IsTrue c.is_some.result ↔ ((rest : List ℕ) × (wstr_text c.args.self.now ≡ g.P.Pattern.part c.args.prefix ++ rest))
is g c =
    let by_text = prefix_text g.E.Utf16Order.BIG (wstr_text c.args.self.now) c.as_bytes.result.now (g.P.Pattern.part c.args.prefix) c.as_bytes.ensures.encoding c.prefix_len.ensures.scalars in (
      λ yes. by_text.0 (c.prefix_len.ensures.some.0 (sym c.is_some.ensures ∙ yes)),
      λ parts. c.is_some.ensures ∙ c.prefix_len.ensures.some.1 (by_text.1 parts),
    )

pub returns-clause-begins : goal.returns-clause-begins
returns-clause-begins g c = is g (goal.at.returns-clause-begins g c).After-is_some

pub returns-clause-value : goal.returns-clause-value
returns-clause-value g c =
    let text = wstr_text c.args.self.now in
    let part = g.P.Pattern.part c.args.prefix in
    same_answer c.is_some.result (starts_with nat_eq text part) (is g (goal.at.returns-clause-value g c).After-is_some) (begins_is text part part (starts_with nat_eq text part) refl refl)
