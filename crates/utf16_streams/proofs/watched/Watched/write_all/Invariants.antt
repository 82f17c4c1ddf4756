use Rattle.std.proofs.Common.{◌≡◌, ◌-◌, ◌≤◌, length, take}
use Rattle.std.specs.Io.KnownBytes.{Appends}
use Rattle.utf16_streams.specs.Watched.{watched_faults, watched_inner}
use Rattle.utf16_streams.proofs.watched.Watched.write_all.Given as goal

-- a prefix of the bytes was written, and no I/O error was counted
abbrev pub invariant-loop-written : goal.invariant-loop-written
invariant-loop-written g l =
    (l.written ≤ length l.bytes)
    × Appends (g.W.Write.contents (watched_inner l.fn.self)) (g.W.Write.contents (watched_inner l.self)) (take l.written l.bytes)
    × (watched_faults l.self ≡ watched_faults l.fn.self)

abbrev pub decreases-loop-written : goal.decreases-loop-written
decreases-loop-written g l = length l.bytes - l.written
