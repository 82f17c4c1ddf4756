use Rattle.std.proofs.Common.{◌+◌, ◌∙◌, ap, arith, drop, length-take-le, rules, take}
use Rattle.std.proofs.lemmas.List.Sums.{count_by-le-length}
use Rattle.std.proofs.lemmas.Simd.{ones-mask_l}
use lib.Count.{ones}
use Rattle.utf16_fixed.specs.Utf32.{above}
use Rattle.utf16_fixed.proofs.CountLemmas.{counted-next}
use Rattle.utf16_fixed.proofs.encode_lossy.count_above.Goals as goal

pub loop-at-preserved : goal.loop-at-preserved
loop-at-preserved c =
    let units = c.args.utf32.now in
    let at = c.loop-at.at in
    record {
      within = search rules;
      counted = counted-next (above c.args.limit) units at 16 _ _ c.loop-at.invariant.counted
          (ap ones c.bits_above.ensures ∙ ones-mask_l (above c.args.limit) (take 16 (drop at units)));
    }

pub overflow_add-count : goal.overflow_add-count
overflow_add-count c = record { fits = omega (arith, loop-at-preserved c, count_by-le-length (above c.args.limit) (take (c.loop-at.at + 16) c.args.utf32.now), length-take-le (c.loop-at.at + 16) c.args.utf32.now (search rules)) }
