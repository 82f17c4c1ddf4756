-- The rules of `utf16_str` for callers of `common_prefix`, under the name of this crate.
use Rattle.utf16_str.proofs.PrefixRules as below
pub use Rattle.utf16_str.proofs.PrefixRules.{Begins-common, IsLongestPrefix-fold, IsLongestPrefix-folded, PrefixSoFar, PrefixSoFar-more, common_prefix}

pub ruleset prefixes = (below.prefixes)
