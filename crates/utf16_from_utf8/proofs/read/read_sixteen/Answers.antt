use Rattle.std.proofs.Common.{◌+◌, ◌-◌, ◌<◌, ◌≤◌, ◌↔◌, ℕ, drop, slice_index, refl, sym, arith}
use Rattle.std.proofs.lemmas.Simd.{get_or-chunk}
use Rattle.utf16_from_utf8.specs.Follow.{Follows, behind, limit_of}
use Rattle.utf16_from_utf8.proofs.FollowLemmas.{follows-at}
use Rattle.utf16_from_utf8.proofs.LaneLemmas.{greatest-below}
use Rattle.utf16_from_utf8.proofs.LimitLemmas.{limit-some}
use Rattle.utf16_from_utf8.proofs.ReadLemmas.{ascii-from, behind-drop, below-behind, chunk-drop, hold-same}
use Rattle.utf16_from_utf8.proofs.read.read_sixteen.Goals as goal

pub returns-then-is_ascii-clause-units : goal.returns-then-is_ascii-clause-units
returns-then-is_ascii-clause-units g c =
    let bytes = c.args.bytes.now in
    let at = c.args.at in
    let two = drop at (behind 2 bytes) in
    let one = drop at (behind 1 bytes) in
    hold-same g.row.MOST two one _ two one (drop at bytes) _ _ _ (λ i few. refl) (λ i few. refl) (chunk-drop at bytes) (c.units_of_ascii.ensures g.row.MOST two one)

pub returns-then-is_ascii-clause-faults : goal.returns-then-is_ascii-clause-faults
returns-then-is_ascii-clause-faults g c =
    let both = greatest-below 0x80 _ _ _ c.greater.ensures (c.is_ascii.ensures.0 c.if-is_ascii.true) in
    let before = c.before_three.ensures.three in (
      (λ none. ascii-from c.args.bytes.now c.before_three.result.0 c.args.at before both.0 both.1),
      (λ follow i few. omega (arith, c.each.ensures.lanes i few)),
    )

pub returns-clause-units : goal.returns-clause-units
returns-clause-units g c =
    let bytes = c.args.bytes.now in
    let at = c.args.at in
    let before = c.before_three.ensures in
    hold-same g.row.MOST _ _ _ _ _ _ _ _ _ (behind-drop 2 at bytes _ before.two) (behind-drop 1 at bytes _ before.one) (chunk-drop at bytes) c.units_of.ensures

pub returns-clause-faults : goal.returns-clause-faults
returns-clause-faults g c = (λ none i few. (each i few).0 (none i few), λ follow i few. (each i few).1 (follow i few))
  where
    each : (i : ℕ) → i < 16 → (slice_index c.faults.result i < 1)
        ↔ Follows (slice_index (behind 3 c.args.bytes.now) (c.args.at + i)) (slice_index (behind 2 c.args.bytes.now) (c.args.at + i)) (slice_index (behind 1 c.args.bytes.now) (c.args.at + i)) (slice_index c.args.bytes.now (c.args.at + i))
    each i few =
        let bytes = c.args.bytes.now in
        let at = c.args.at in
        let limit = limit_of g.row.MOST in
        let three = c.before_three.ensures.three.lanes i few in
        let two = c.before_three.ensures.two.lanes i few in
        let one = c.before_three.ensures.one.lanes i few in
        let here = get_or-chunk at 16 bytes i 0 few in
        let under = λ (d : ℕ) (most : d ≤ 3). below-behind d bytes (at + i) (at - 3) limit (limit-some g.row.MOST) (omega (arith, most)) c.requires.below in
        let both =
        c.faults.ensures i few
        (omega (arith, three, under 3 (omega arith)))
        (omega (arith, two, under 2 (omega arith)))
        (omega (arith, one, under 1 (omega arith)))
        (omega (arith, here, under 0 (omega arith))) in (
          (λ none. follows-at _ _ _ _ _ _ _ _ (sym three) (sym two) (sym one) (sym here) (both.0 none)),
          (λ follows. both.1 (follows-at _ _ _ _ _ _ _ _ three two one here follows)),
        )
