use Rattle.std.proofs.Common.{◌≡◌, ◌+◌, ◌<◌, ◌≤◌, ◌↔◌, ◌∙◌, ⊎_elim, ℕ, drop, length, slice_index, sym, ap, lt-ltb, le-ltb, cond, arith}
use Rattle.std.proofs.lemmas.Bool.{cases_lt}
use Rattle.utf16_from_utf8.specs.Follow.{Follows, behind}
use Rattle.utf16_from_utf8.proofs.FollowLemmas.{follows-at}
use Rattle.utf16_from_utf8.proofs.ReadLemmas.{below-behind}
use Rattle.utf16_from_utf8.proofs.ShortLemmas.{filled-behind, filled-whole}
use Rattle.utf16_from_utf8.proofs.short.follow.Goals as goal

pub returns : goal.returns
returns c = (
  (λ are i below. (each i below).0 (omega (arith, c.are_below.ensures.0 are i (few i below), kept i below))),
  (λ follow. c.are_below.ensures.1 (λ i lane. ⊎_elim
      (λ (below : i < length c.args.bytes.now). omega (arith, (each i below).1 (follow i below), kept i below))
      (λ (past : length c.args.bytes.now ≤ i). omega (arith, c.first_lanes.ensures.lanes i lane ∙ ap (λ t. cond t (slice_index c.faults-all.result i) 0) (le-ltb i (length c.args.bytes.now) past)))
      (cases_lt i (length c.args.bytes.now)))),
)
  where
    few : (i : ℕ) → i < length c.args.bytes.now → i < 16
    few i below = omega (arith, below, c.requires.few)

    kept : (i : ℕ) → i < length c.args.bytes.now → slice_index c.first_lanes.result i ≡ slice_index c.faults-all.result i
    kept i below = c.first_lanes.ensures.lanes i (few i below) ∙ ap (λ t. cond t (slice_index c.faults-all.result i) 0) (lt-ltb i (length c.args.bytes.now) below)

    each : (i : ℕ) → i < length c.args.bytes.now → (slice_index c.faults-all.result i < 1)
        ↔ Follows (slice_index (behind 3 (drop 0 c.args.bytes.now)) i) (slice_index (behind 2 (drop 0 c.args.bytes.now)) i) (slice_index (behind 1 (drop 0 c.args.bytes.now)) i) (slice_index c.args.bytes.now (0 + i))
    each i below =
        let text = c.args.bytes.now in
        let lane = few i below in
        let here : i ≡ 0 + i = omega arith in
        let whole = filled-whole text c.spread.result c.filled-block.result c.requires.few c.spread.ensures.len c.spread.ensures.text c.filled-block.ensures in
        let are' = filled-behind text c.filled-block.result c.before-2.result.0 c.before-2.result.1 c.previous_lanes.result whole c.before-2.ensures c.previous_lanes.ensures i lane below in
        let small = λ (d : ℕ). below-behind d text i 0 0x100 (omega arith) (omega arith) (λ j le. (c.type_inv.bytes j).fits) in
        let last = ap (slice_index text) (sym here) ∙ sym are'.here in
        let both = c.faults-all.ensures i lane (omega (arith, are'.three, small 3)) (omega (arith, are'.two, small 2)) (omega (arith, are'.one, small 1)) (omega (arith, are'.here, small 0)) in (
          (λ none. follows-at _ _ _ _ _ _ _ _ (sym are'.three) (sym are'.two) (sym are'.one) last (both.0 none)),
          (λ follows. both.1 (follows-at _ _ _ _ _ _ _ _ are'.three are'.two are'.one (sym last) follows)),
        )
