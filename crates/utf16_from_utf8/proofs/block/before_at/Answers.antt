use Rattle.utf16_from_utf8.proofs.FollowLemmas.{before-in}
use Rattle.utf16_from_utf8.proofs.block.before_at.Goals as goal

pub returns : goal.returns
returns c = before-in c.args.bytes.now c.args.at c.requires.some c.requires.more
