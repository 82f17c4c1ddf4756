use Rattle.std.proofs.Common.{◌==◌, ◌*◌, false, not, take, subst, sym, ap, ◌∙◌, arith, length-take-le}
use Rattle.std.proofs.lemmas.List.Sums.{prefix_len-le-length}
use Rattle.std.specs.List.{prefix_len}
use Rattle.utf16_bytes.specs.Nul.{IsNulOffset}
use Rattle.utf16_bytes.proofs.NulLemmas.{by_lanes}
use Rattle.utf16_bytes.proofs.nul.nul_in_block.Goals as goal

pub overflow_mul-result : goal.overflow_mul-result
overflow_mul-result c =
    record { fits = omega (arith, c.units_before_nul.ensures, c.units32.ensures.len, prefix_len-le-length (λ unit. not (unit == 0)) c.units32.result) }

pub returns : goal.returns
returns c =
    subst (λ n. IsNulOffset false (take 64 c.args.rest.now) (2 * n))
    (sym (c.units_before_nul.ensures ∙ ap (prefix_len (λ unit. not (unit == 0))) c.units32.ensures.units))
    (by_lanes (take 64 c.args.rest.now) (omega (arith, length-take-le 64 c.args.rest.now c.requires)))
