use Rattle.std.proofs.Common.{nat_eq, sym, ap, ◌∙◌}
use Rattle.std.proofs.lemmas.Bool.{eqb-true}
use Rattle.utf16_units.proofs.SurrogateLemmas.{bits_of_no_surrogate, no_surrogate_by_bits}
use Rattle.utf16_units.proofs.surrogates.has_no_surrogate.Goals as goal

pub returns : goal.returns
returns g c = (
  (λ pass. no_surrogate_by_bits c.args.units (sym c.class_bits.ensures ∙ eqb-true _ _ pass)),
  (λ plain. ap (λ bits. nat_eq bits 0) (c.class_bits.ensures ∙ bits_of_no_surrogate c.args.units c.fits-units.1 plain)),
)
