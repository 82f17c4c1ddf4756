use Rattle.std.proofs.Common.{rules}
use Rattle.utf16_str.proofs.PredicateRestated.{both-restated}
use Rattle.uses_strings.proofs.predicates.without_quotes.Goals as goal

pub returns : goal.returns
returns g c = both-restated _ _ _ _ c.trim_with.ensures.text (λ c b h. search rules)
