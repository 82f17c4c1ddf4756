use Rattle.std.proofs.Common.{◌+◌, refl, arith}
use Rattle.utf16_from_utf8.proofs.LaneLemmas.{greatest-below}
use Rattle.utf16_from_utf8.proofs.LimitLemmas.{below-greatest, chunk-below, four-below}
use Rattle.utf16_from_utf8.proofs.limits.greatest.Goals as goal

pub returns : goal.returns
returns c limit =
    let bytes = c.args.bytes.now in
    let at = c.args.at in (
      (λ all.
          let halves = greatest-below limit _ _ _ c.greater-3.ensures all in
          let low = greatest-below limit _ _ _ c.greater.ensures halves.0 in
          let high = greatest-below limit _ _ _ c.greater-2.ensures halves.1 in
          four-below bytes at limit low.0 low.1 high.0 high.1),
      (λ all.
          below-greatest limit _ _ _ c.greater-3.ensures
          (below-greatest limit _ _ _ c.greater.ensures (chunk-below bytes at at 0 limit (omega arith) (omega arith) all) (chunk-below bytes at (at + 16) 16 limit refl (omega arith) all))
          (below-greatest limit _ _ _ c.greater-2.ensures (chunk-below bytes at (at + 32) 32 limit refl (omega arith) all) (chunk-below bytes at (at + 48) 48 limit refl (omega arith) all))),
    )
