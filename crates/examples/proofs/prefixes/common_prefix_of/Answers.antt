use Rattle.utf16string.proofs.PrefixRules.{PrefixSoFar-more}
use Rattle.examples.proofs.prefixes.common_prefix_of.Goals as goal

pub loop-other-preserved : goal.loop-other-preserved
loop-other-preserved g c = PrefixSoFar-more c.args.first c.args.others.now c.loop-other.other-index c.loop-other.prefix c.other-item.result c.common_prefix-prefix.result c.loop-other.invariant c.loop-other-test.true c.other-item.is c.common_prefix-prefix.ensures.text
