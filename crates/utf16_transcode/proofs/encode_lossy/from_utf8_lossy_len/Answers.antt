use Rattle.std.proofs.Common.{◌≡◌, ◌+◌, ◌*◌, ◌≤◌, ◌<◌, length, arith, rules, ap, ◌∙◌, subst}
use Rattle.std.specs.Str.{IsUtf8, chars}
use Rattle.std.specs.Str.Chunks.{utf8_chunks_rest}
use Rattle.utf16_units.specs.Encoding.{size}
use Rattle.utf16_transcode.proofs.EncodeLossyLemmas.{chunk-most, size-chunk, size-empty, size-last, size-whole}
use Rattle.utf16_transcode.proofs.encode_lossy.from_utf8_lossy_len.Goals as goal
use Rattle.utf16_transcode.proofs.encode_lossy.from_utf8_lossy_len.Goals.{After-utf16_len-in-loop-chunk}

-- the text of the chunk has at most twice as many bytes
most : (c : After-utf16_len-in-loop-chunk)
    → c.loop-chunk.size + c.utf16_len-in-loop-chunk.result + 2 * length c.in-Some.chunk.invalid.now + 2 * length (utf8_chunks_rest c.next.new.self) ≤ 2 * length c.args.text.now
most c =
    let steps = c.in-Some.ensures.steps in
    let text = subst IsUtf8 c.valid.ensures c.valid.utf8 in
    let len = c.utf16_len-in-loop-chunk.ensures ∙ ap (λ b. size (chars b)) c.valid.ensures in
    let bound = chunk-most (utf8_chunks_rest c.loop-chunk.chunk-iterator) c.in-Some.chunk.valid.now c.in-Some.chunk.invalid.now (utf8_chunks_rest c.next.new.self) text steps.0 in
    omega (arith, bound, len, c.loop-chunk.invariant.1)

pub overflow_add-size : goal.overflow_add-size
overflow_add-size c = record { fits = omega (arith, most (goal.at.overflow_add-size c).After-utf16_len-in-loop-chunk) }

pub overflow_add-size-then-not-is_empty : goal.overflow_add-size-then-not-is_empty
overflow_add-size-then-not-is_empty c =
    let some : 0 < length c.in-Some.chunk.invalid.now = search rules in
    record { fits = omega (arith, most (goal.at.overflow_add-size-then-not-is_empty c).After-utf16_len-in-loop-chunk) }

pub loop-chunk-preserved-then-not-is_empty : goal.loop-chunk-preserved-then-not-is_empty
loop-chunk-preserved-then-not-is_empty c =
    let steps = c.in-Some.ensures.steps in
    let some : 0 < length c.in-Some.chunk.invalid.now = search rules in
    let text = subst IsUtf8 c.valid.ensures c.valid.utf8 in
    let len = c.utf16_len-in-loop-chunk.ensures ∙ ap (λ b. size (chars b)) c.valid.ensures in
    let all = size-chunk (utf8_chunks_rest c.loop-chunk.chunk-iterator) c.in-Some.chunk.valid.now c.in-Some.chunk.invalid.now (utf8_chunks_rest c.next.new.self) text steps.0 steps.3.0 steps.3.1 some in
    (omega (arith, c.loop-chunk.invariant.0), omega (arith, most (goal.at.loop-chunk-preserved-then-not-is_empty c).After-utf16_len-in-loop-chunk))

pub loop-chunk-preserved : goal.loop-chunk-preserved
loop-chunk-preserved c =
    let steps = c.in-Some.ensures.steps in
    let none : length c.in-Some.chunk.invalid.now ≡ 0 = search rules in
    let len = c.utf16_len-in-loop-chunk.ensures ∙ ap (λ b. size (chars b)) c.valid.ensures in
    let all = size-last (utf8_chunks_rest c.loop-chunk.chunk-iterator) c.in-Some.chunk.valid.now c.in-Some.chunk.invalid.now (utf8_chunks_rest c.next.new.self) steps.0 steps.3.0 none (steps.2 none) in
    let left = size-empty _ (steps.2 none) in
    (omega (arith, c.loop-chunk.invariant.0), omega (arith, most (goal.at.loop-chunk-preserved c).After-utf16_len-in-loop-chunk))

pub returns-clause-size : goal.returns-clause-size
returns-clause-size c =
    let left = size-empty _ c.in-None.ensures.steps.0 in
    omega (arith, c.loop-chunk.invariant.0)

pub returns-then-is_text_within_block-clause-size : goal.returns-then-is_text_within_block-clause-size
returns-then-is_text_within_block-clause-size c = (size-whole c.args.text.now _ _ (c.is_text_within_block.ensures c.if-is_text_within_block.true) c.from_utf8_unchecked.ensures c.utf16_len.ensures).0

pub returns-then-is_text_within_block-clause-most : goal.returns-then-is_text_within_block-clause-most
returns-then-is_text_within_block-clause-most c = (size-whole c.args.text.now _ _ (c.is_text_within_block.ensures c.if-is_text_within_block.true) c.from_utf8_unchecked.ensures c.utf16_len.ensures).1

pub returns-in-Ok-clause-size : goal.returns-in-Ok-clause-size
returns-in-Ok-clause-size c = (size-whole c.args.text.now _ _ c.in-Ok.ensures.cases.1 c.in-Ok.ensures.cases.0 c.utf16_len-in-Ok.ensures).0

pub returns-in-Ok-clause-most : goal.returns-in-Ok-clause-most
returns-in-Ok-clause-most c = (size-whole c.args.text.now _ _ c.in-Ok.ensures.cases.1 c.in-Ok.ensures.cases.0 c.utf16_len-in-Ok.ensures).1
