use Rattle.std.proofs.Common.{◌+◌, ◌≤◌, take, refl, arith}
use Rattle.utf16_from_utf8.specs.Follow.{FollowsAny, FollowsTwo, limit_of}
use Rattle.utf16_from_utf8.proofs.AddedLemmas.{written-more}
use Rattle.utf16_from_utf8.proofs.FollowLemmas.{first-lanes, follows-any, follows-two, next-lanes}
use Rattle.utf16_from_utf8.proofs.LimitLemmas.{limit-some}
use Rattle.utf16_from_utf8.proofs.block.write_all.Goals as goal

pub write_sixteen-end-requires-clause-follow : goal.write_sixteen-end-requires-clause-follow
write_sixteen-end-requires-clause-follow g c i few = (
  (λ most. first-lanes (FollowsTwo (limit_of g.row.MOST)) c.args.bytes.now _ _ c.args.from.read 64 (omega arith) (follows-two _ _ _ 64 (limit-some g.row.MOST) most c.requires.below c.requires.follow) c.before-2.ensures i few),
  first-lanes FollowsAny c.args.bytes.now _ _ c.args.from.read 64 (omega arith) (follows-any _ _ 64 c.requires.follow) c.before-2.ensures i few,
)

pub write_sixteen-end-requires-in-loop-k-clause-follow : goal.write_sixteen-end-requires-in-loop-k-clause-follow
write_sixteen-end-requires-in-loop-k-clause-follow g c i few =
    let now = c.loop-k.invariant in
    let within : c.loop-k.k + 16 ≤ 64 = omega (arith, now.steps, now.most, c.loop-k-test.true) in (
      (λ most. next-lanes (FollowsTwo (limit_of g.row.MOST)) c.args.bytes.now _ _ c.args.from.read 64 c.loop-k.k now.some within
          (λ j after. follows-two _ _ _ 64 (limit-some g.row.MOST) most c.requires.below c.requires.follow j) c.before_at.ensures i few),
      next-lanes FollowsAny c.args.bytes.now _ _ c.args.from.read 64 c.loop-k.k now.some within (λ j after. follows-any _ _ 64 c.requires.follow j) c.before_at.ensures i few,
    )

pub loop-k-init : goal.loop-k-init
loop-k-init g c = record {
  some = omega arith;
  most = (omega arith);
  steps = refl;
  wrote = c.write_sixteen-end.ensures.bytes 0 0 c.before-2.ensures;
  short = omega (arith, c.write_sixteen-end.ensures.written_to);
}

pub loop-k-preserved : goal.loop-k-preserved
loop-k-preserved g c =
    let now = c.loop-k.invariant in
    let most : c.loop-k.k + 16 ≤ 64 = omega (arith, now.steps, now.most, c.loop-k-test.true) in
    record {
      some = omega (arith, now.some);
      most = omega (arith, most);
      steps = omega (arith, now.steps);
      wrote = written-more g.E.Utf16Order.BIG c.args.bytes.now (take c.args.from.written c.args.out.now) _ _ c.args.from.read c.loop-k.k (omega (arith, now.some)) (omega (arith, most, c.requires.more)) now.wrote
          (c.write_sixteen-end-in-loop-k.ensures.bytes _ _ c.before_at.ensures);
      short = omega (arith, now.short, c.write_sixteen-end-in-loop-k.ensures.written_to);
    }
