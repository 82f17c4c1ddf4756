use Rattle.std.proofs.Common.{◌≢◌, ◌/◌, arith, w16}
use Rattle.std.proofs.lemmas.Bool.{eqb-true}
use Rattle.std.proofs.lemmas.List.Elements.{All-weaker}
use Rattle.std.proofs.lemmas.Simd.{shifts_fit_splat}
use Rattle.utf16_units.specs.Lanes.{IsNoSurrogate}
use Rattle.utf16_fixed.proofs.PlainLemmas.{IsNoSurrogate-of}
use Rattle.utf16_fixed.proofs.ValidLemmas.{no_surrogate-lanes}
use Rattle.utf16_fixed.proofs.lanes.has_no_low_surrogate.Goals as goal

pub overflow_shr-result : goal.overflow_shr-result
overflow_shr-result g c = shifts_fit_splat 16 c.args.units _ 11 (omega arith)

pub returns : goal.returns
returns g c none =
    All-weaker (λ unit. unit / 0x800 ≢ 0x1B) IsNoSurrogate IsNoSurrogate-of c.args.units
    (no_surrogate-lanes w16 g.row.N c.args.units c.fits-units.0 c.requires (eqb-true _ _ none))
