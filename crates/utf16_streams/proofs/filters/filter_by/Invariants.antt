use Rattle.std.proofs.Common.{◌≡◌}
use Rattle.utf16_streams.specs.Watched.{watched_faults, watched_inner}
use Rattle.utf16_streams.proofs.FilterLemmas.{Filtering}
use Rattle.utf16_streams.proofs.filters.filter_by.Given as goal

-- what was read and written by `counter` reads, without an I/O error
abbrev pub invariant-loop : goal.invariant-loop
invariant-loop g l =
    let t = g.T.Transcoder in let remaining = g.R.Read.remaining in let contents = g.W.Write.contents in
    Filtering (t.decided l.fn.transcoder) (t.whole l.fn.transcoder) (remaining (watched_inner l.fn.reader)) (remaining (watched_inner l.reader))
    (contents (watched_inner l.fn.writer)) (contents (watched_inner l.writer)) (t.decided l.transcoder) (t.whole l.transcoder) l.counter
    × (watched_faults l.reader ≡ watched_faults l.fn.reader)
    × (watched_faults l.writer ≡ watched_faults l.fn.writer)
