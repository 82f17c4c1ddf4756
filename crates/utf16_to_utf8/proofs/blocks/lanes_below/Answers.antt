use Rattle.std.proofs.Common.{◌<◌, ◌^◌, ltb, ltb-true, lt-ltb, eqb-true, w16, sym, ap, ◌∙◌, arith}
use borrow.Author.Tests.{eq-eqb}
use Rattle.std.proofs.lemmas.Simd.{bitmask_splat}
use Rattle.utf16_to_utf8.proofs.BoundLemmas.{all_by_bits, bits_of_all}
use Rattle.utf16_to_utf8.proofs.blocks.lanes_below.Goals as goal

pub returns : goal.returns
returns c =
    let lanes = c.args.lanes in
    let limit = c.args.limit in
    let long = c.fits-lanes.0 in
    let mask = bitmask_splat w16 ltb lanes 8 limit long (omega arith) in (
      λ e. all_by_bits (λ u. ltb u limit) (λ u. u < limit) (λ u t. ltb-true u limit t) lanes (omega (arith, sym mask ∙ eqb-true _ _ e, ap (λ n. 2 ^ n) long)),
      λ all. eq-eqb _ _ (mask ∙ omega (arith, bits_of_all (λ u. ltb u limit) (λ u. u < limit) (λ u t. lt-ltb u limit t) lanes all, ap (λ n. 2 ^ n) long)),
    )
