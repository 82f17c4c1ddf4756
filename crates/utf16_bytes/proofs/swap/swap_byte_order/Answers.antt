use Rattle.std.proofs.Common.{◌++◌, ◌∙◌, ap, arith, not, subst, sym, take}
use Rattle.utf16_units.specs.Encoding.{Encodes}
use Rattle.utf16_bytes.proofs.SwapLemmas.{Encodes-swapped, SwappedTo-all, SwappedTo-next, swapped_two}
use Rattle.utf16_bytes.proofs.swap.swap_byte_order.Goals as goal

pub loop-utf16-preserved : goal.loop-utf16-preserved
loop-utf16-preserved c =
    SwappedTo-next _ c.loop-utf16.utf16 c.swap_block.new.raw c.loop-utf16.at 32 (omega (arith, c.swap_block.auto.raw)) (omega (arith, c.swap_block.auto.raw))
    c.swap_block.ensures.swapped c.swap_block.ensures.rest c.loop-utf16.invariant

pub loop-utf16-2-preserved : goal.loop-utf16-2-preserved
loop-utf16-2-preserved c =
    let raw = c.loop-utf16-2.utf16 in
    let at = c.loop-utf16-2.at in
    SwappedTo-next _ raw c.swap_two.new.raw at 1 (omega (arith, c.swap_two.auto.raw)) (omega (arith, c.swap_two.auto.raw))
    (c.swap_two.ensures.swapped ∙ ap (λ bytes. take at raw ++ bytes) (sym (swapped_two raw at (omega arith)))) c.swap_two.ensures.rest c.loop-utf16-2.invariant

pub returns : goal.returns
returns c =
    let all = SwappedTo-all c.args.utf16.now c.loop-utf16-2.utf16 c.loop-utf16-2.at c.loop-utf16-2.invariant (omega arith) in
    record {
      swapped = all;
      text = λ big text encodes. subst (Encodes (not big) text) (sym all) (Encodes-swapped big text c.args.utf16.now encodes);
    }
