use Rattle.std.proofs.Common.{◌-◌, length, sym, ◌∙◌, arith}
use Rattle.std.proofs.lemmas.Bool.{false≢true}
use Rattle.utf16_from_utf8.specs.Follow.{limit_of}
use Rattle.utf16_from_utf8.proofs.ReadLemmas.{below-later, whole-utf8}
use Rattle.utf16_from_utf8.proofs.RestLemmas.{all-tried, none-tried}
use Rattle.utf16_from_utf8.proofs.WellFormedLemmas.{text-follows}
use Rattle.utf16_from_utf8.proofs.rest.write_rest_of.Goals as goal
use Rattle.utf16_from_utf8.proofs.rest.write_rest_of.Goals.{then-not-are_below-via-then-not-are_below, then-not-are_below-via-else-not-are_below+then-whole_len-bytes}

pub loop-read-init : goal.loop-read-init
loop-read-init g c = record {
  after = omega arith;
  within = omega (arith, c.requires.within);
  tried = none-tried g.E.Utf16Order.BIG c.args.bytes.now c.args.out.now _ c.args.from (omega (arith, c.requires.within)) c.requires.begun (λ i few. omega (arith, c.each.ensures.lanes i few));
}

pub loop-read-preserved : goal.loop-read-preserved
loop-read-preserved g c =
    let now = c.loop-read.invariant in
    record {
      after = omega (arith, now.after);
      within = omega (arith, now.within, c.loop-read-test.true);
      tried = c.write_next-tried.ensures c.args.from now.tried;
    }

pub write_last-tried-requires-clause-below : goal.write_last-tried-requires-clause-below
write_last-tried-requires-clause-below g c = below-later c.args.bytes.now (c.args.from - 18) _ (limit_of g.row.MOST) (omega (arith, c.requires.within)) c.requires.below

pub returns-then-not-are_below-clause-none : goal.returns-then-not-are_below-clause-none
returns-then-not-are_below-clause-none g c none utf8 =
    let bytes = c.args.bytes.now in
    let tried = c.write_last-tried.ensures c.args.from c.loop-read.invariant.tried in
    elim c.then-not-are_below.branch [
      | then-not-are_below-via-then-not-are_below w ↦ absurd (false≢true (sym w.if-not-are_below.true ∙ c.are_below.ensures.1 (tried.faults.1 (text-follows bytes 0 (length bytes) utf8 (omega arith)))))
      | then-not-are_below-via-else-not-are_below+then-whole_len-bytes w ↦ absurd (omega (arith, w.if-whole_len-bytes.true, w.whole_len.ensures.text utf8))
    ]

pub returns-clause-written : goal.returns-clause-written
returns-clause-written g c =
    let bytes = c.args.bytes.now in
    let tried = c.write_last-tried.ensures c.args.from c.loop-read.invariant.tried in
    let all = tried.faults.0 (c.are_below.ensures.0 c.if-not-are_below.false) in
    let len = c.whole_len.ensures in
    all-tried g.E.Utf16Order.BIG bytes c.write_last-tried.new.out _ c.args.from _ (whole-utf8 bytes (omega (arith, c.requires.some)) all (len.whole (omega (arith, c.if-whole_len-bytes.false, len.within)))) all tried
