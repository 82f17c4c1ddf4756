use Rattle.std.proofs.Common.{sym, ◌∙◌, arith}
use Rattle.utf16_units.proofs.SurrogateLemmas.{bits_by_paired, expected-fits, paired_by_bits}
use Rattle.utf16_units.proofs.surrogates.paired.Goals as goal

pub overflow_mul-expected : goal.overflow_mul-expected
overflow_mul-expected g c =
    record { fits = omega (arith, expected-fits c.args.units g.row.N c.leading_bits.result c.fits-units.0 c.leading_bits.ensures c.args.before c.requires) }

pub overflow_add-expected : goal.overflow_add-expected
overflow_add-expected g c =
    record { fits = omega (arith, expected-fits c.args.units g.row.N c.leading_bits.result c.fits-units.0 c.leading_bits.ensures c.args.before c.requires) }

pub returns-then-trailing_bits-expected-clause-some : goal.returns-then-trailing_bits-expected-clause-some
returns-then-trailing_bits-expected-clause-some g c =
    paired_by_bits c.args.units g.row.N c.leading_bits.result c.fits-units.0 c.leading_bits.ensures c.args.before c.requires
    (sym c.trailing_bits.ensures ∙ c.if-trailing_bits-expected.true)

pub returns-else-trailing_bits-expected-clause-none : goal.returns-else-trailing_bits-expected-clause-none
returns-else-trailing_bits-expected-clause-none g c after p =
    c.if-trailing_bits-expected.false
    (c.trailing_bits.ensures ∙ bits_by_paired c.args.units g.row.N c.leading_bits.result c.fits-units.0 c.leading_bits.ensures c.args.before after c.requires p)
