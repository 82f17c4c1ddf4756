use Rattle.std.proofs.Common.{◌≡◌, ◌++◌, ◌≤◌, ◌-◌, ℕ, List, length, take, drop, refl, sym, ap, ap₂, ◌∙◌, subst, take_all, arith}
use Rattle.utf16_transcode.specs.Stops.{StopsPartial}
use Rattle.utf16_transcode.proofs.StreamSteps.{Feeds-done, Feeds-full, fed_text, few_left, filled, holds_tail, is_whole, join_drop, not_whole, rest_undecided, stops_full}
use Rattle.utf16_transcode.proofs.stream.Stream.feed.Given.{Over}
use Rattle.utf16_transcode.proofs.stream.Stream.feed.Goals as goal
use Rattle.utf16_transcode.proofs.stream.Stream.feed.Goals.{After-joined_start-len}

pub returns-in-NoSpace : goal.returns-in-NoSpace
returns-in-NoSpace g c =
    let front = c.transcode_joined-front.ensures.decodes in
    let full = subst (StopsPartial g.D.LossyDirection.split _ _ _) c.in-NoSpace.is c.transcode_joined-front.ensures.stop in
    let read = ap (λ r. length c.args.piece.now - length r) c.rest_of.ensures.piece in
    rw (← c.pending-pending.ensures.bytes) record {
      feeds = Feeds-full g.D.LossyDirection.split _ c.lossy_laws.ensures.chunks _ _ _ _ _ front full _ read _ (c.holding.ensures.pending ∙ c.rest_of.ensures.left);
      stop = stops_full g.D.LossyDirection.split _ c.lossy_laws.ensures.chunks _ _ _ _ _ front full _ read _ (c.holding.ensures.pending ∙ c.rest_of.ensures.left);
      done = (λ done. absurd (cc), λ whole. absurd (not_whole g.D.LossyDirection.split _ c.lossy_laws.ensures.chunks _ _ _ _ _ front full _ read whole));
      text = λ done. absurd (cc);
      pending = λ done. absurd (cc);
      undecided = λ done. absurd (cc);
      filled = λ full_up. filled g.D.LossyDirection.split _ c.lossy_laws.ensures.chunks _ _ _ _ _ front full _ read c.lossy_laws.ensures.short;
      few = c.holding.ensures.few;
    }

module _ (g : Over) (c : After-joined_start-len g) where
  abbrev rest : List ℕ
  rest = drop c.transcode_joined-front.result.read (c.pending-pending.result.now ++ c.args.piece.now)

  undecided : g.D.LossyDirection.split.tail rest ≡ rest
  undecided = rest_undecided g.D.LossyDirection.split _ c.lossy_laws.ensures.chunks _ _ c.transcode_joined-front.result.stop c.in_default.not-NoSpace c.transcode_joined-front.ensures.stop

  few : length rest ≤ 3
  few = few_left g.D.LossyDirection.split _ c.lossy_laws.ensures.chunks c.pending-pending.result.now c.args.piece.now _ _ _ c.transcode_joined-front.ensures.decodes undecided

  tail : take c.joined_start-len.result.1 c.joined_start-len.result.0 ≡ rest
  tail =
      let both = ap₂ (λ h p. h ++ p) c.rest_of.ensures.left c.rest_of.ensures.piece ∙ join_drop c.pending-pending.result.now c.args.piece.now c.transcode_joined-front.result.read in
      c.joined_start-len.ensures.bytes ∙ take_all 4 _ (omega (arith, few, ap length both)) ∙ both

pub holding-requires-2 : goal.holding-requires-2
holding-requires-2 g c =
    let before = (goal.at.holding-requires-2 g c).After-joined_start-len in
    subst (λ b. length b ≤ 3) (sym (tail g before)) (few g before)

pub returns : goal.returns
returns g c =
    let before = (goal.at.returns g c).After-joined_start-len in
    let front = c.transcode_joined-front.ensures.decodes in
    let pending = c.holding-2.ensures.pending ∙ tail g before in
    let feeds = Feeds-done g.D.LossyDirection.split _ c.lossy_laws.ensures.chunks _ _ _ _ _ front (undecided g before) _ pending in
    let held = holds_tail g.D.LossyDirection.split _ c.lossy_laws.ensures.chunks c.pending-pending.result.now c.args.piece.now _ _ _ front (undecided g before) _ pending in
    rw (← c.pending-pending.ensures.bytes) record {
      feeds = feeds;
      stop = (refl, held);
      done = (λ done. is_whole g.D.LossyDirection.split _ c.lossy_laws.ensures.chunks c.pending-pending.result.now c.args.piece.now _ _ _ front (undecided g before), λ fits. refl);
      text = λ done. fed_text g.D.LossyDirection.split _ c.lossy_laws.ensures.chunks _ _ _ _ _ _ 0 feeds (refl, held);
      pending = λ done. held;
      undecided = λ done. ap g.D.LossyDirection.split.tail pending ∙ undecided g before ∙ sym pending;
      filled = λ full_up. absurd (cc);
      few = c.holding-2.ensures.few;
    }
