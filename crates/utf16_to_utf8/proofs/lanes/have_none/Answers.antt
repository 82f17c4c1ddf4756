use Rattle.std.proofs.Common.{◌≡◌, ℕ, bit_and, bit_or, eqb-true, replicate, subst, sym}
use lib.Lanes.{fold_l, zip2}
use Rattle.utf16_to_utf8.proofs.NarrowLemmas.{none-left}
use Rattle.utf16_to_utf8.proofs.lanes.have_none.Goals as goal

pub returns : goal.returns
returns g c none =
    none-left c.args.bits c.args.v 0 (subst (λ (n : ℕ). fold_l bit_or 0 (zip2 bit_and c.args.v (replicate n c.args.bits)) ≡ 0) (sym c.fits-v.0) (eqb-true _ _ none))
