use Rattle.std.proofs.Common.{arith}
use Rattle.std.proofs.lemmas.Simd.{get_or-chunk}
use Rattle.utf16_from_utf8.proofs.ReadLemmas.{behind-zero, chunk-behind, previous-behind}
use Rattle.utf16_from_utf8.proofs.read.before_three.Goals as goal

pub returns-then-at-ge3-clause-three : goal.returns-then-at-ge3-clause-three
returns-then-at-ge3-clause-three c = chunk-behind 3 c.args.bytes.now c.args.at c.if-at-ge3.true c.requires

pub returns-then-at-ge3-clause-two : goal.returns-then-at-ge3-clause-two
returns-then-at-ge3-clause-two c = chunk-behind 2 c.args.bytes.now c.args.at (omega (arith, c.if-at-ge3.true)) c.requires

pub returns-then-at-ge3-clause-one : goal.returns-then-at-ge3-clause-one
returns-then-at-ge3-clause-one c = chunk-behind 1 c.args.bytes.now c.args.at (omega (arith, c.if-at-ge3.true)) c.requires

pub returns-clause-one : goal.returns-clause-one
returns-clause-one c = previous-behind 0 c.args.at c.args.bytes.now _ _ _ c.byte_before.ensures (λ i few. get_or-chunk c.args.at 16 c.args.bytes.now i 0 few) c.previous_lanes-b1.ensures

pub returns-clause-two : goal.returns-clause-two
returns-clause-two c = previous-behind 1 c.args.at c.args.bytes.now _ _ _ c.byte_before-2.ensures (returns-clause-one c).lanes c.previous_lanes-b2.ensures

pub returns-clause-three : goal.returns-clause-three
returns-clause-three c = previous-behind 2 c.args.at c.args.bytes.now _ _ 0 (behind-zero 3 c.args.bytes.now c.args.at c.if-at-ge3.false) (returns-clause-two c).lanes c.previous_lanes.ensures
