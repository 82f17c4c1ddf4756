use Rattle.std.proofs.Common.{◌≡◌, ℕ, ◌∙◌, ◌+◌, ◌-◌, ◌≤◌, List, ◌++◌, ap, append_assoc, arith, drop, length, subst, sym, take}
use Rattle.std.proofs.Math.Seq.{take-add}
use Rattle.std.proofs.lemmas.List.{drop-drop, drop_at}
use Rattle.std.proofs.lemmas.Grind.{common_steps}
use Rattle.std.proofs.lemmas.Simd.{length-chunk, put_chunk_is, take_more_put_chunk}
use lib.Lanes.{chunk}
use Rattle.utf16string.proofs.retain_blocks.move_all.Goals as goal

-- the bytes after those that are written stay
after : (bytes ys : List ℕ) (to n : ℕ) → to + length ys ≤ n → n ≤ length bytes
    → drop n (take to bytes ++ (ys ++ drop (length ys) (drop to bytes))) ≡ drop n bytes
after bytes ys to n behind within =
    let zs = drop (length ys) (drop to bytes) in
    let all = take to bytes ++ (ys ++ zs) in
    let end = to + length ys in
    let long : length (take to bytes ++ ys) ≡ end = grind (arith, common_steps) in
    let at_end = ap (drop end) (sym (append_assoc (take to bytes) ys zs)) ∙ drop_at (take to bytes ++ ys) zs end long ∙ drop-drop (length ys) to bytes in
    let further = sym (drop-drop (n - end) end all) ∙ ap (drop (n - end)) at_end ∙ drop-drop (n - end) end bytes in
    subst (λ m. drop m all ≡ drop m bytes) (omega arith) further

pub returns-then-to-start-clause-moved : goal.returns-then-to-start-clause-moved
returns-then-to-start-clause-moved c =
    let bytes = c.args.bytes.now in
    take_more_put_chunk c.args.to bytes (chunk c.args.start 32 bytes) (c.args.to + 32)
    (omega (arith, length-chunk c.args.start 32 bytes c.requires.within)) (omega (arith, c.requires.down, c.requires.within))

pub returns-then-to-start-clause-rest : goal.returns-then-to-start-clause-rest
returns-then-to-start-clause-rest c =
    let bytes = c.args.bytes.now in
    let down = c.requires.down in
    let within = c.requires.within in
    let long = length-chunk c.args.start 32 bytes within in
    ap (drop (c.args.start + 32)) (put_chunk_is c.args.to bytes (chunk c.args.start 32 bytes) (omega arith)) ∙ after bytes (chunk c.args.start 32 bytes) c.args.to (c.args.start + 32) (omega arith) within

pub returns-else-to-start-clause-moved : goal.returns-else-to-start-clause-moved
returns-else-to-start-clause-moved c =
    let down = c.requires.down in
    let same : c.args.to ≡ c.args.start = omega (arith, c.if-to-start.false) in
    take-add c.args.to (32) c.args.bytes.now ∙ ap (λ i. take c.args.to c.args.bytes.now ++ take (32) (drop i c.args.bytes.now)) same
