use Rattle.std.proofs.Common.{◌+◌, ◌<◌, ◌≤◌, ◌∙◌, arith, drop, length, length-drop, length-take, refl, take}
use Rattle.std.proofs.lemmas.List.{length-take-le}
use Rattle.utf16_units.proofs.FirstChar.{AreBytes-from_All}
use Rattle.utf16_program.proofs.BlockLemmas.{Checking-block, block_ends, block_fails, kept_pending}
use Rattle.utf16_program.proofs.CheckLemmas.{Checking-long, Checking-read, Checking-start, start_pending}
use Rattle.utf16_program.proofs.check.check.Goals as goal

pub loop-checker-init : goal.loop-checker-init
loop-checker-init g c = (
  Checking-start _ _ _ _ c.new-checker.ensures,
  start_pending c.new-checker.result.big_endian,
  omega arith,
  omega (arith, c.new-checker.ensures.offset),
  refl,
  refl,
  refl,
)

pub returns-then-room-eq0-clause-checks : goal.returns-then-room-eq0-clause-checks
returns-then-room-eq0-clause-checks g c =
    let kept = c.loop-checker.invariant in
    let long = length-take-le c.loop-checker.pending c.loop-checker.block (omega (arith, kept.2, kept.6)) in
    Checking-long _ _ _ _ _ _ _ kept.0 (omega (arith, long, kept.2, c.offset.ensures, c.min-room.ensures, c.if-room-eq0.true))

pub returns-then-count-eq0-clause-checks : goal.returns-then-count-eq0-clause-checks
returns-then-count-eq0-clause-checks g c =
    let kept = c.loop-checker.invariant in
    let block = c.read_behind.new.block in
    let read = c.in-Ok.ensures in
    let room : 0 < length (take c.min-room.result (drop c.loop-checker.pending block)) =
    omega (arith, length-take c.min-room.result (drop c.loop-checker.pending block), length-drop c.loop-checker.pending block, kept.2, kept.6, c.read_behind.auto.block, c.if-room-eq0.false) in
    block_ends c.loop-checker.block block c.loop-checker.pending c.min-room.result c.in-Ok.count read.before read.within _ _ _ _ _ _ _ c.loop-checker.checker _ kept.0 c.if-count-eq0.true
    read.transfers.0 (read.transfers.1 c.if-count-eq0.true room) c.end.ensures.ends

pub returns-in-Err-clause-checks : goal.returns-in-Err-clause-checks
returns-in-Err-clause-checks g c =
    block_fails c.loop-checker.block c.read_behind.new.block c.loop-checker.pending c.min-room.result c.in-Ok.count c.in-Ok.ensures.before c.in-Ok.ensures.within
    _ _ _ _ _ _ _ c.loop-checker.checker _ c.loop-checker.invariant.0 c.in-Ok.ensures.transfers.0 (omega (arith, c.min-room.ensures)) c.in-Err.ensures.fails

pub loop-checker-preserved : goal.loop-checker-preserved
loop-checker-preserved g c =
    let kept = c.loop-checker.invariant in
    let p = c.loop-checker.pending in
    let block = c.read_behind.new.block in
    let read = c.in-Ok.ensures in
    let done = c.in-Ok-check_block.ensures in
    let fits : p + c.in-Ok.count ≤ length block = omega (arith, kept.2, kept.6, c.read_behind.auto.block, read.within, c.min-room.ensures) in
    let long = length-take-le (p + c.in-Ok.count) block fits in (
      Checking-block c.loop-checker.block block p c.min-room.result c.in-Ok.count read.before read.within _ _ _ _ fits done.takes c.copy_within.ensures.after
          _ _ _ _ _ _ _ kept.0 read.transfers.0 (AreBytes-from_All block read.are_bytes) done.lines,
      kept_pending c.loop-checker.block block p c.min-room.result c.in-Ok.count read.before read.within _ _ _ _ fits done.takes c.copy_within.ensures.after,
      omega (arith, long, done.takes.few),
      omega (arith, done.takes.offset, done.takes.within, long, kept.2, c.offset.ensures, c.min-room.ensures, read.within, c.if-room-eq0.false),
      read.faults ∙ kept.4,
      done.succeeds ∙ kept.5,
      c.copy_within.ensures.len ∙ c.read_behind.auto.block ∙ kept.6,
    )

pub returns-in_default-clause-checks : goal.returns-in_default-clause-checks
returns-in_default-clause-checks g c = Checking-read _ _ _ _ _ _ _ c.loop-checker.invariant.0 _ c.in_default.ensures.transfers
