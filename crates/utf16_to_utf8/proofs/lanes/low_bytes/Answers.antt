use Rattle.std.proofs.Common.{ℕ, Fits, map, subst, sym, ap, ◌∙◌, w8, w16}
use lib.Dec.{T}
use lib.IntN.{nat_abs}
use lib.Lanes.{Each1}
use lib.Signed.{non_neg}
use mir.Val.{to_z}
use Rattle.utf16_to_utf8.proofs.NarrowLemmas.{kept, lane-bytes, lane-fit}
use Rattle.utf16_to_utf8.proofs.lanes.low_bytes.Goals as goal

pub overflow_cast-result-2 : goal.overflow_cast-result-2
overflow_cast-result-2 g c =
    subst (Each1 (λ (lane : ℕ). T (non_neg (to_z w16 lane)) × Fits w8 (nat_abs (to_z w16 lane)))) (sym (kept g.row.N c.args.v c.fits-v.0 c.requires.ascii)) (lane-fit c.args.v c.requires.ascii)

pub returns : goal.returns
returns g c = ap (map (λ (lane : ℕ). nat_abs (to_z w16 lane))) (kept g.row.N c.args.v c.fits-v.0 c.requires.ascii) ∙ lane-bytes c.args.v c.requires.ascii
