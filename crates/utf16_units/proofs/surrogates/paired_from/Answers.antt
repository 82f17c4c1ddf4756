use Rattle.std.proofs.Common.{◌^◌, false, arith}
use Rattle.std.proofs.lemmas.Bool.{eq-eqb, eqb-true}
use Rattle.std.proofs.Math.Nat.{div-le_self}
use Rattle.utf16_units.proofs.EndPairs.{paired_from-bits}
use Rattle.utf16_units.proofs.SurrogateLemmas.{expected-fits}
use Rattle.utf16_units.proofs.surrogates.paired_from.Goals as goal

pub overflow_mul-result : goal.overflow_mul-result
overflow_mul-result g c =
    let leading = c.leading_bits.result in
    record { fits = omega (arith, expected-fits c.args.units g.row.N leading c.fits-units.0 c.leading_bits.ensures false c.requires.few, div-le_self leading (2 ^ c.args.from)) }

pub returns : goal.returns
returns g c =
    let bits = paired_from-bits c.args.units c.args.from c.leading_bits.result c.trailing_bits.result c.leading_bits.ensures c.trailing_bits.ensures in
    ((λ pass. bits.0 (eqb-true _ _ pass)), (λ p. eq-eqb _ _ (bits.1 p)))
