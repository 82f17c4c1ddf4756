use Rattle.std.proofs.Common.{◌≤◌, All, subst}
use Rattle.utf16_fixed.proofs.LaneLemmas.{lows-basic}
use Rattle.utf16_fixed.proofs.lanes.are_basic.Goals as goal

pub returns-then-are_below-clause-first : goal.returns-then-are_below-clause-first
returns-then-are_below-clause-first c past =
    lows-basic c.args.first (c.greater.ensures 0xFFFF (c.are_below.ensures.0 c.if-are_below.true)).0
    (subst (All (λ unit. 0x800 ≤ unit)) c.from_surrogates.ensures (c.lesser-least.ensures 0x800 (c.are_from.ensures past)).0)

pub returns-then-are_below-clause-second : goal.returns-then-are_below-clause-second
returns-then-are_below-clause-second c past =
    lows-basic c.args.second (c.greater.ensures 0xFFFF (c.are_below.ensures.0 c.if-are_below.true)).1
    (subst (All (λ unit. 0x800 ≤ unit)) c.from_surrogates-2.ensures (c.lesser-least.ensures 0x800 (c.are_from.ensures past)).1)
