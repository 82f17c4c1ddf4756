use Rattle.std.proofs.Common.{arith}
use Rattle.std.proofs.lemmas.List.Sums.{count_by-le-length}
use Rattle.std.specs.Char.Utf16.{is_low_surrogate}
use Rattle.utf16_units.specs.Encoding.{units_of}
use Rattle.utf16_units.proofs.CountLemmas.{counted_bytes}
use Rattle.utf16_units.proofs.UnitsUpTo.{length-units_of}
use Rattle.utf16_bytes.proofs.units.count_chars.Goals as goal

pub overflow_sub-result : goal.overflow_sub-result
overflow_sub-result g c =
    omega (arith, c.trailing_units.ensures, length-units_of g.E.Utf16Order.BIG c.args.raw.now, count_by-le-length is_low_surrogate (units_of g.E.Utf16Order.BIG c.args.raw.now))

pub returns-clause-count : goal.returns-clause-count
returns-clause-count g c text = omega (arith, c.trailing_units.ensures, counted_bytes g.E.Utf16Order.BIG c.args.raw.now text)
