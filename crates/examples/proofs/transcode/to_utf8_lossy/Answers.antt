use Rattle.std.proofs.Common.{◌≡◌, [], arith, sym, true≢false}
use Rattle.std.proofs.lemmas.Grind.{common_steps}
use Rattle.utf16_tools.proofs.StreamLemmas.{whole_lossy_chars-some}
use Rattle.utf16_tools.specs.Split.{split_items, split_tail}
use Rattle.examples.proofs.transcode.to_utf8_lossy.Goals as goal

pub returns : goal.returns
returns g c =
    let some : ¬ (split_tail g.E.Utf16Order.BIG c.args.bytes.now ≡ []) = grind (arith, common_steps, c.finish.ensures.none, c.in-Some.is, c.in_ok-text.ensures.pending, c.new-decoder.ensures) in
    let replacement : c.in-Some.replacement ≡ 0xFFFD = grind (arith, common_steps, c.finish.ensures.replacement, c.in-Some.is, c.in_ok-text.ensures.pending, c.new-decoder.ensures, some) in
    grind (arith, common_steps, whole_lossy_chars-some (split_items g.E.Utf16Order.BIG c.args.bytes.now) (split_tail g.E.Utf16Order.BIG c.args.bytes.now) some, replacement)

pub returns-in_err-text-clause-nothing : goal.returns-in_err-text-clause-nothing
unfolding split_items
returns-in_err-text-clause-nothing g c empty = absurd (true≢false (sym (c.in_err-text.ensures.nothing (rw (c.new-decoder.ensures, empty)))))
