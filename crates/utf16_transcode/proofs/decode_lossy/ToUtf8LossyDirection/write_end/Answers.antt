use Rattle.std.proofs.Common.{◌<◌, ◌++◌, ◌∙◌, length, take, ap, arith, rules}
use Rattle.utf16_transcode.proofs.ToUtf8Parts.{end_bytes}
use Rattle.utf16_transcode.proofs.decode_lossy.ToUtf8LossyDirection.write_end.Goals as goal

pub returns-then-to-at-lt3-clause-none : goal.returns-then-to-at-lt3-clause-none
returns-then-to-at-lt3-clause-none g c none =
    let some : 0 < length c.args.tail.now = search rules in
    omega (arith, ap length (end_bytes c.args.tail.now some), c.if-to-at-lt3.true)

pub returns-clause-bytes : goal.returns-clause-bytes
returns-clause-bytes g c =
    let some : 0 < length c.args.tail.now = search rules in
    c.put.ensures.bytes ∙ ap (λ b. take c.args.at c.args.to.now ++ b) (end_bytes c.args.tail.now some)
