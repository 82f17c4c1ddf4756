use Rattle.std.proofs.Common.{arith, length-take-le}
use Rattle.utf16_units.proofs.CountLemmas.{counted_bytes}
use Rattle.utf16_fixed.proofs.scan.inspect.Goals as goal

pub overflow_sub-result : goal.overflow_sub-result
overflow_sub-result g c =
    let prefix = c.scan_prefix-valid_up_to.ensures in
    omega (arith, prefix.scan.counted, counted_bytes g.E.Utf16Order.BIG _ prefix.valid, length-take-le _ c.args.raw.now prefix.within)

pub returns-clause-chars : goal.returns-clause-chars
returns-clause-chars g c =
    let prefix = c.scan_prefix-valid_up_to.ensures in
    omega (arith, prefix.scan.counted, counted_bytes g.E.Utf16Order.BIG _ prefix.valid, length-take-le _ c.args.raw.now prefix.within)
