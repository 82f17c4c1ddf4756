use Rattle.std.proofs.Common.{◌≡◌, ◌+◌, ◌*◌, get_or, refl, ap, ◌∙◌, arith}
use Rattle.std.proofs.lemmas.Simd.{below_from_Fits, get_or_narrower}
use lib.Lanes.{digits_l, number_l}
use Rattle.utf16_to_utf8.proofs.pack.lane_bytes.Goals as goal

pub returns-clause-bytes : goal.returns-clause-bytes
returns-clause-bytes c i lt =
    let lanes = c.args.lanes in
    let below = below_from_Fits _ lanes c.fits-lanes.1 in
    let first : 2 * i ≡ 2 * i + 0 = omega arith in (
      ap (λ m. get_or (digits_l 256 16 (number_l 65536 lanes)) m 0) first ∙ get_or_narrower 65536 2 256 16 lanes i 0 refl below (omega arith) (omega arith) ∙ omega arith,
      get_or_narrower 65536 2 256 16 lanes i 1 refl below (omega arith) (omega arith),
    )
