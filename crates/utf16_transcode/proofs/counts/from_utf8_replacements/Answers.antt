use Rattle.std.proofs.Common.{◌≡◌, ◌↔◌, ◌<◌, length, arith, rules, subst, sym}
use Rattle.std.specs.Str.{IsUtf8}
use Rattle.std.specs.Str.Chunks.{utf8_chunks_rest}
use Rattle.utf16_transcode.proofs.CountChunks.{count_chunk, count_last, count_nothing}
use Rattle.utf16_transcode.proofs.CountUtf8Lemmas.{count_none}
use Rattle.utf16_transcode.proofs.counts.from_utf8_replacements.Goals as goal

pub loop-chunk-preserved-then-not-is_empty : goal.loop-chunk-preserved-then-not-is_empty
loop-chunk-preserved-then-not-is_empty c =
    let steps = c.in-Some.ensures.steps in
    let some : 0 < length c.in-Some.chunk.invalid.now = search rules in
    let one = count_chunk (utf8_chunks_rest c.loop-chunk.chunk-iterator) c.in-Some.chunk.valid.now c.in-Some.chunk.invalid.now (utf8_chunks_rest c.next.new.self) steps.0 steps.3.0 steps.3.1 some in
    (omega (arith, c.loop-chunk.invariant.0, one), omega (arith, c.loop-chunk.invariant.1, steps.1))

pub loop-chunk-preserved : goal.loop-chunk-preserved
loop-chunk-preserved c =
    let steps = c.in-Some.ensures.steps in
    let none : length c.in-Some.chunk.invalid.now ≡ 0 = search rules in
    let last = count_last (utf8_chunks_rest c.loop-chunk.chunk-iterator) c.in-Some.chunk.valid.now c.in-Some.chunk.invalid.now (utf8_chunks_rest c.next.new.self) steps.0 steps.3.0 none (steps.2 none) in
    (omega (arith, c.loop-chunk.invariant.0, last, count_nothing _ (steps.2 none)), omega (arith, c.loop-chunk.invariant.1, steps.1))

pub returns-clause-count : goal.returns-clause-count
returns-clause-count c = omega (arith, c.loop-chunk.invariant.0, count_nothing _ c.in-None.ensures.steps.0)

pub returns-clause-well_formed : goal.returns-clause-well_formed
returns-clause-well_formed c = subst (λ n. (n ≡ 0) ↔ IsUtf8 c.args.text.now) (sym (returns-clause-count c)) (count_none c.args.text.now)
