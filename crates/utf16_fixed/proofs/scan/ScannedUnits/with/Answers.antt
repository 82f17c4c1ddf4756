use Rattle.std.proofs.Common.{ap, arith}
use lib.Count.{ones}
use Rattle.std.proofs.lemmas.List.Sums.{count_by-le-length}
use Rattle.std.proofs.lemmas.Simd.{ones-mask_l}
use Rattle.std.specs.Char.Utf16.{is_low_surrogate}
use Rattle.utf16_fixed.proofs.GreatestLemmas.{IsScanOf-with}
use Rattle.utf16_fixed.proofs.scan.ScannedUnits.with.Goals as goal

pub overflow_add-result : goal.overflow_add-result
overflow_add-result c = record {
  fits =
      omega (arith, c.requires, ap ones c.trailing_bits.ensures, ones-mask_l is_low_surrogate c.args.units, count_by-le-length is_low_surrogate c.args.units, c.fits-units.0);
}

pub returns : goal.returns
returns c before was =
    IsScanOf-with before c.args.units c.args.self.trailing c.trailing_bits.result c.args.self.greatest was c.fits-units.0 c.trailing_bits.ensures
