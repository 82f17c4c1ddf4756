use Rattle.std.proofs.Common.{subst, arith}
use Rattle.utf16_from_utf8.specs.Follow.{IsBlock}
use Rattle.utf16_from_utf8.proofs.blocks.write_mixed_blocks.Goals as goal

pub returns-then-stays-clause-stop : goal.returns-then-stays-clause-stop
returns-then-stays-clause-stop g c block =
    let stays = c.if-stays.true in
    absurd (c.write_next-next.ensures.stop stays (subst (IsBlock c.args.bytes.now) stays block))

pub returns-then-out-cursor-clause-stop : goal.returns-then-out-cursor-clause-stop
returns-then-out-cursor-clause-stop g c block = omega arith

pub write_next-next-requires-clause-space : goal.write_next-next-requires-clause-space
write_next-next-requires-clause-space g c = omega arith
