use Rattle.std.proofs.Common.{inl, rules}
use Rattle.utf16_units.proofs.PairLemmas.{PairedTo-none}
use Rattle.utf16_to_utf8.proofs.runs.write_paired.Goals as goal
use Rattle.utf16_to_utf8.proofs.runs.write_paired.Goals.{then-not-leading, else-not-leading}

pub loop-cursor-init : goal.loop-cursor-init
loop-cursor-init g c = record { reached = search rules; paired = PairedTo-none g.E.Utf16Order.BIG c.args.raw.now }

pub returns-in_default-clause-stop : goal.returns-in_default-clause-stop
returns-in_default-clause-stop g c = inl (c.write_surrogates.ensures.none c.in_default.is)

pub returns-then-raw-lt64-clause-paired : goal.returns-then-raw-lt64-clause-paired
returns-then-raw-lt64-clause-paired g c = PairedTo-none g.E.Utf16Order.BIG c.args.raw.now

pub write_surrogates-requires-clause-paired : goal.write_surrogates-requires-clause-paired
write_surrogates-requires-clause-paired g c =
    let start = c.loop-cursor.invariant.paired in
    elim c.if-not-leading.branch [
      | then-not-leading w ↦ rw (w.cursor-is, w.if-not-leading.true) (w.write_plain-cursor.ensures.advanced.paired tt (rw w.if-not-leading.true at start))
      | else-not-leading w ↦ rw w.cursor-is start
    ]

pub returns-then-cursor-raw-clause-paired : goal.returns-then-cursor-raw-clause-paired
returns-then-cursor-raw-clause-paired g c =
    let start = c.loop-cursor.invariant.paired in
    elim c.if-not-leading.branch [
      | then-not-leading w ↦ rw (w.cursor-is, w.if-not-leading.true) (w.write_plain-cursor.ensures.advanced.paired tt (rw w.if-not-leading.true at start))
      | else-not-leading w ↦ rw w.cursor-is start
    ]

pub returns-in_default-clause-paired : goal.returns-in_default-clause-paired
returns-in_default-clause-paired g c =
    let start = c.loop-cursor.invariant.paired in
    elim c.if-not-leading.branch [
      | then-not-leading w ↦ rw (w.cursor-is, w.if-not-leading.true) (w.write_plain-cursor.ensures.advanced.paired tt (rw w.if-not-leading.true at start))
      | else-not-leading w ↦ rw w.cursor-is start
    ]
