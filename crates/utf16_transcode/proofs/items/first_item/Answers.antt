use Rattle.std.proofs.Common.{rules}
use Rattle.utf16_transcode.proofs.DecodesUtf8.{FirstItem-subpart}
use Rattle.utf16_transcode.proofs.ItemLemmas.{FirstItem-begins, four_decide}
use Rattle.utf16_transcode.proofs.items.first_item.Goals as goal

pub returns-in-Ok : goal.returns-in-Ok
returns-in-Ok c = FirstItem-begins c.args.text.now _ _ (search rules)

pub returns-in-Err-Some : goal.returns-in-Err-Some
returns-in-Err-Some c = FirstItem-subpart c.args.text.now _ (search rules) (search rules)

pub returns-in-Err-None : goal.returns-in-Err-None
returns-in-Err-None c = absurd (four_decide c.args.text.now c.requires (search rules))
