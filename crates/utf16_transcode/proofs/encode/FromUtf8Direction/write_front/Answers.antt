use Rattle.std.proofs.Common.{arith, ◌<◌, ◌≤◌, length, ⊎_elim}
use Rattle.std.proofs.lemmas.Bool.{cases_lt}
use Rattle.utf16_transcode.proofs.FromUtf8Lemmas.{wrote_blocks}
use Rattle.utf16_transcode.proofs.encode.FromUtf8Direction.write_front.Goals as goal

pub returns-clause-wrote : goal.returns-clause-wrote
returns-clause-wrote g c = wrote_blocks c.write_prefix.ensures.written

pub returns-clause-most : goal.returns-clause-most
returns-clause-most g c = λ valid space. ⊎_elim
    (λ (few : length c.args.rest.now < 66). omega arith)
    (λ (many : 66 ≤ length c.args.rest.now). omega (arith, c.write_prefix.ensures.whole valid (omega arith) (omega arith)))
    (cases_lt (length c.args.rest.now) 66)
