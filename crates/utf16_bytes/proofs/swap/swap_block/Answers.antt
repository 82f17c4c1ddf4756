use Rattle.std.proofs.Common.{◌+◌, ◌++◌, ◌∙◌, ap, arith, drop, length, sym, take}
use Rattle.std.proofs.lemmas.Simd.{length-chunk, take_more_put_chunk}
use Rattle.utf16_bytes.proofs.SwapLemmas.{drop-put_chunk, length-swap_bytes}
use Rattle.utf16_bytes.proofs.swap.swap_block.Goals as goal

pub returns-clause-swapped : goal.returns-clause-swapped
returns-clause-swapped c =
    let raw = c.args.raw.now in
    let at = c.args.at in
    let here = length-chunk at 64 raw c.requires in
    let long = ap length c.swapped.ensures ∙ length-swap_bytes 32 (take 64 (drop at raw)) here ∙ here in
    take_more_put_chunk at raw c.swapped.result (at + 64) (omega (arith, long)) c.requires ∙ ap (λ bytes. take at raw ++ bytes) c.swapped.ensures

pub returns-clause-rest : goal.returns-clause-rest
returns-clause-rest c =
    let raw = c.args.raw.now in
    let at = c.args.at in
    let here = length-chunk at 64 raw c.requires in
    let long = ap length c.swapped.ensures ∙ length-swap_bytes 32 (take 64 (drop at raw)) here ∙ here in
    drop-put_chunk at 64 raw c.swapped.result (sym long) c.requires
