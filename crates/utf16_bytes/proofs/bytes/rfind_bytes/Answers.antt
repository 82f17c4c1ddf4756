use Rattle.utf16_bytes.proofs.FoundLemmas.{finds_last_by}
use Rattle.utf16_bytes.proofs.bytes.rfind_bytes.Goals as goal

pub returns : goal.returns
returns c = finds_last_by c.args.text.now c.args.finder.now c.args.end c.requires c.rfind.result c.rfind.ensures
