use Rattle.std.proofs.Common.{◌≡◌, ◌+◌, ◌-◌, ◌^◌, ◌<◌, ◌≤◌, length, take}
use Rattle.utf16_streams.specs.Watched.{watched_faults, watched_inner}
use Rattle.utf16_program.specs.Checker.{IsPending, checker_offset}
use Rattle.utf16_program.proofs.CheckLemmas.{Checking}
use Rattle.utf16_program.proofs.check.check.Given as goal

-- what was read and written, without an I/O error
abbrev pub invariant-loop-checker : goal.invariant-loop-checker
invariant-loop-checker g l =
    let remaining = g.R.Read.remaining in let contents = g.W.Write.contents in
    Checking l.fn.big_endian (remaining (watched_inner l.fn.reader)) (remaining (watched_inner l.reader)) (contents (watched_inner l.fn.writer)) (contents (watched_inner l.writer))
    l.checker (take l.pending l.block)
    × IsPending l.checker (take l.pending l.block)
    × (l.pending ≤ 3)
    × (checker_offset l.checker + l.pending < 2 ^ 64)
    × (watched_faults l.reader ≡ watched_faults l.fn.reader)
    × (watched_faults l.writer ≡ watched_faults l.fn.writer)
    × (length l.block ≡ 4096)

abbrev pub decreases-loop-checker : goal.decreases-loop-checker
decreases-loop-checker g l = 2 ^ 64 - (checker_offset l.checker + l.pending)
