use Rattle.std.proofs.Common.{rules}
use Rattle.utf16_str.proofs.PredicateRestated.{first-restated}
use Rattle.uses_strings.proofs.predicates.first_beyond_ascii.Goals as goal

pub returns : goal.returns
returns g c = first-restated _ _ _ _ c.find_with.ensures.first (λ d b h. search rules)
