use Rattle.std.proofs.Common.{◌+◌, ◌<◌, ◌↔◌, ◌∷◌, ℕ, drop, slice_index, sym, arith}
use Rattle.std.proofs.lemmas.Simd.{get_or-chunk}
use Rattle.utf16_from_utf8.specs.Follow.{Follows, limit_of}
use Rattle.utf16_from_utf8.proofs.FollowLemmas.{behind-below, first-one, first-three, first-two, follows-at}
use Rattle.utf16_from_utf8.proofs.LimitLemmas.{limit-some}
use Rattle.utf16_from_utf8.proofs.block.first_faults.Goals as goal

pub returns : goal.returns
returns g c = (λ none i below. (each i below).0 (none i below), λ follow i below. (each i below).1 (follow i below))
  where
    each : (i : ℕ) → i < 16 → (slice_index c.faults.result i < 1)
        ↔ Follows (slice_index (0 ∷ 0 ∷ 0 ∷ drop c.args.at c.args.bytes.now) i) (slice_index (0 ∷ 0 ∷ drop c.args.at c.args.bytes.now) i) (slice_index (0 ∷ drop c.args.at c.args.bytes.now) i) (slice_index c.args.bytes.now (c.args.at + i))
    each i below =
        let bytes = c.args.bytes.now in
        let at = c.args.at in
        let limit = limit_of g.row.MOST in
        let three = first-three bytes c.previous_lanes.result c.before-2.result.0 c.before-2.result.1 at c.before-2.ensures c.previous_lanes.ensures i below in
        let two = first-two bytes c.before-2.result.0 c.before-2.result.1 at c.before-2.ensures i below in
        let one = first-one bytes c.before-2.result.0 c.before-2.result.1 at c.before-2.ensures i below in
        let here = get_or-chunk at 16 bytes i 0 below in
        let under = λ (d : ℕ). behind-below d bytes at i 16 limit (limit-some g.row.MOST) below c.requires.below in
        let both =
        c.faults.ensures i below (omega (arith, three, under 3)) (omega (arith, two, under 2)) (omega (arith, one, under 1)) (omega (arith, here, c.requires.below i below)) in (
          (λ none. follows-at _ _ _ _ _ _ _ _ (sym three) (sym two) (sym one) (sym here) (both.0 none)),
          (λ follows. both.1 (follows-at _ _ _ _ _ _ _ _ three two one here follows)),
        )
