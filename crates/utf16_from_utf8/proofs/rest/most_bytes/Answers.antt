use Rattle.std.proofs.Common.{◌<◌, ◌≤◌, ⊎_elim, inl, inr, arith}
use Rattle.std.proofs.lemmas.Bool.{cases_lt}
use Rattle.utf16_from_utf8.proofs.LaneLemmas.{greatest-below}
use Rattle.utf16_from_utf8.proofs.ReadLemmas.{below-all, below-last, below-next}
use Rattle.utf16_from_utf8.proofs.rest.most_bytes.Goals as goal

pub loop-k-init : goal.loop-k-init
loop-k-init c = record {
  within = omega (arith, c.saturating_sub-k.ensures, c.requires.within);
  below = λ limit some lanes j after either. ⊎_elim
      (λ before. absurd (omega (arith, before, after, c.saturating_sub-k.ensures)))
      (λ last. below-last c.args.bytes.now limit some (omega (arith, c.requires.some)) lanes j last)
      either;
}

pub loop-k-preserved : goal.loop-k-preserved
loop-k-preserved c =
    let now = c.loop-k.invariant in
    let bytes = c.args.bytes.now in
    record {
      within = omega (arith, c.loop-k-test.true);
      below = λ limit some lanes j after either.
          let both = greatest-below limit _ _ _ c.greater-all.ensures lanes in
          ⊎_elim
          (λ before. ⊎_elim
          (λ (a : j < c.loop-k.k). now.below limit some both.0 j after (inl a))
          (λ (a : c.loop-k.k ≤ j). below-next bytes c.loop-k.k limit both.1 j a before)
          (cases_lt j c.loop-k.k))
          (λ last. now.below limit some both.0 j after (inr last))
          either;
    }

pub returns-then-are_below : goal.returns-then-are_below
returns-then-are_below c =
    below-all c.args.bytes.now c.args.at c.loop-k.k 0xE0 (omega (arith, c.loop-k-test.false)) (c.loop-k.invariant.below 0xE0 (omega arith) (c.are_below.ensures.0 c.if-are_below.true))

pub returns-then-are_below-2 : goal.returns-then-are_below-2
returns-then-are_below-2 c =
    below-all c.args.bytes.now c.args.at c.loop-k.k 0xF0 (omega (arith, c.loop-k-test.false)) (c.loop-k.invariant.below 0xF0 (omega arith) (c.are_below-2.ensures.0 c.if-are_below-2.true))

pub returns : goal.returns
returns c i after = (c.type_inv.bytes i).fits
