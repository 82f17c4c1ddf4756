use Rattle.std.proofs.Common.{arith}
use Rattle.std.proofs.lemmas.Bool.Decides.{nat_tests}
use Rattle.utf16_transcode.proofs.NoCharLemmas.{lone_lead, lone_other}
use Rattle.utf16_transcode.proofs.encode.error_len_of_one.Goals as goal

pub returns-then-contains : goal.returns-then-contains
returns-then-contains c = lone_lead c.args.lead (grind (arith, nat_tests)) (grind (arith, nat_tests))

pub returns-else-contains : goal.returns-else-contains
returns-else-contains c = lone_other c.args.lead c.requires (grind (arith, nat_tests))
