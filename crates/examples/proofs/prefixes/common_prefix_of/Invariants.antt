use Rattle.utf16string.proofs.PrefixRules.{PrefixSoFar}
use Rattle.examples.proofs.prefixes.common_prefix_of.Given as goal

-- the prefix so far is the longest common prefix of the first text and the others so far
abbrev pub invariant-loop-other : goal.invariant-loop-other
invariant-loop-other g l = PrefixSoFar l.first l.others l.other-index l.prefix
