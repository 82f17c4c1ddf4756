use Rattle.std.proofs.Common.{◌≡◌, ◌+◌, ◌-◌, ◌∙◌, slice_index, sym, ap, arith}
use Rattle.utf16_from_utf8.proofs.FollowLemmas.{behind-at}
use Rattle.utf16_from_utf8.proofs.ReadLemmas.{behind-zero}
use Rattle.utf16_from_utf8.proofs.read.byte_before.Goals as goal

pub returns-then-at-by : goal.returns-then-at-by
returns-then-at-by c = behind-zero c.args.by c.args.bytes.now c.args.at c.if-at-by.true

pub returns-else-at-by : goal.returns-else-at-by
returns-else-at-by c =
    let place : c.args.at - c.args.by ≡ 0 + c.args.at - c.args.by = omega arith in
    ap (slice_index c.args.bytes.now) place ∙ sym (behind-at c.args.by c.args.bytes.now 0 c.args.at c.if-at-by.false)
