use Rattle.std.proofs.Common.{◌≤◌, ltb, ltb-false, eqb-true, w16, sym, ◌∙◌, arith}
use Rattle.std.proofs.lemmas.Simd.{bitmask_splat}
use Rattle.utf16_to_utf8.proofs.BoundLemmas.{none_by_bits}
use Rattle.utf16_to_utf8.proofs.blocks.lanes_from.Goals as goal

pub returns : goal.returns
returns c e =
    let lanes = c.args.lanes in
    let limit = c.args.limit in
    let bits = sym (bitmask_splat w16 ltb lanes 8 limit c.fits-lanes.0 (omega arith)) ∙ eqb-true _ _ e in
    none_by_bits (λ u. ltb u limit) (λ u. limit ≤ u) (λ u f. ltb-false u limit f) lanes bits
