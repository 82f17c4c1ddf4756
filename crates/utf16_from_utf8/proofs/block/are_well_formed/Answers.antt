use Rattle.std.proofs.Common.{◌+◌, ◌-◌, ◌≤◌, refl, arith}
use Rattle.utf16_from_utf8.proofs.LaneLemmas.{greatest-below}
use Rattle.utf16_from_utf8.specs.Follow.{limit_of}
use Rattle.utf16_from_utf8.proofs.FollowLemmas.{follow-more, follow-next, further-below}
use Rattle.utf16_from_utf8.proofs.LimitLemmas.{below-greatest}
use Rattle.utf16_from_utf8.proofs.block.are_well_formed.Goals as goal

pub loop-k-init : goal.loop-k-init
loop-k-init g c = record {
  some = omega arith;
  most = omega arith;
  steps = refl;
  follow = c.first_faults-all.ensures;
}

pub faults_at-next-requires-clause-below : goal.faults_at-next-requires-clause-below
faults_at-next-requires-clause-below g c i below =
    let now = c.loop-k.invariant in
    further-below c.args.bytes.now c.args.at (limit_of g.row.MOST) 64 (c.loop-k.k - 3 + i) _ (omega (arith, now.some)) (omega (arith, now.steps, now.most, c.loop-k-test.true, below)) c.requires.below

pub loop-k-preserved : goal.loop-k-preserved
loop-k-preserved g c =
    let now = c.loop-k.invariant in
    let bytes = c.args.bytes.now in
    let at = c.args.at in
    let k = c.loop-k.k in
    let some : 3 ≤ k = omega (arith, now.some) in
    record {
      some = omega (arith, now.some);
      most = omega (arith, now.steps, now.most, c.loop-k-test.true);
      steps = omega (arith, now.steps);
      follow = (
        (λ none.
            let both = greatest-below 1 _ _ _ c.greater-all.ensures none in
            follow-more bytes at k some (now.follow.0 both.0) (λ j below. (c.faults_at-next.ensures j below).0 (both.1 j below))),
        (λ follow.
            below-greatest 1 _ _ _ c.greater-all.ensures (now.follow.1 (λ i below. follow i (omega (arith, below))))
            (λ j below. (c.faults_at-next.ensures j below).1 (follow-next bytes at k (k + 16) some (omega arith) follow j below))),
      );
    }

pub returns : goal.returns
returns g c =
    let now = c.loop-k.invariant in
    let bytes = c.args.bytes.now in (
      (λ are i below. now.follow.0 (c.are_below.ensures.0 are) i (omega (arith, below, c.loop-k-test.false))),
      (λ follow. c.are_below.ensures.1 (now.follow.1 (λ i below. follow i (omega (arith, below, now.most))))),
    )
