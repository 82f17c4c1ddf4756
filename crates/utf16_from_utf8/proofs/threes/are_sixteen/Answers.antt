use Rattle.utf16_from_utf8.proofs.LaneLemmas.{greatest-below}
use Rattle.utf16_from_utf8.proofs.ThreesLemmas.{first-by, later-by}
use Rattle.utf16_from_utf8.proofs.threes.are_sixteen.Goals as goal

pub returns : goal.returns
returns c e i below =
    let outer = greatest-below 1 _ _ _ c.greater-2.ensures (c.are_below.ensures.0 e) in
    let inner = greatest-below 1 _ _ _ c.greater.ensures outer.0 in
    record {
      first = first-by _ _ _ _ (c.masked.ensures.lanes i below) (c.each.ensures.lanes i below) (c.sum-first.ensures.lanes i below) (inner.0 i below);
      second = later-by _ _ _ _ (c.masked-2.ensures.lanes i below) (c.each-2.ensures.lanes i below) (c.sum-second.ensures.lanes i below) (inner.1 i below);
      third = later-by _ _ _ _ (c.masked-3.ensures.lanes i below) (c.each-3.ensures.lanes i below) (c.sum-third.ensures.lanes i below) (outer.1 i below);
    }
