use Rattle.utf16_from_utf8.proofs.ShortLemmas.{is-order}
use Rattle.utf16_from_utf8.proofs.short.order.Goals as goal

pub returns : goal.returns
returns c = is-order c.args.len c.requires.some c.requires.few
