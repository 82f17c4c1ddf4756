use Rattle.utf16_fixed.proofs.ValidLemmas.{none_above, scalar_values}
use Rattle.utf16_fixed.proofs.lanes.are_scalars.Goals as goal

pub returns-then-bits_above-eq0 : goal.returns-then-bits_above-eq0
returns-then-bits_above-eq0 g c none =
    scalar_values c.args.units (none_above 0x10_FFFF c.args.units _ c.bits_above.ensures c.if-bits_above-eq0.true) (c.has_no_surrogate.ensures none)
