use Rattle.std.proofs.Common.{◌≡◌, ◌+◌, ◌-◌, ◌<◌, ◌≤◌, ◌⊎◌, inl, inr, ℕ, List, ◌++◌, drop, take, length, ap₂, ◌∙◌, arith, length-append, replicate, rules, take_at, ⊎_elim}
use Rattle.std.proofs.lemmas.Bool.{cases_lt}
use Rattle.std.proofs.lemmas.Slice.{take-put_mid}
use Rattle.utf16_transcode.proofs.StreamSteps.{start_bytes}
use Rattle.utf16_transcode.proofs.joined.joined_start.Goals as goal

pub returns-clause-bytes : goal.returns-clause-bytes
returns-clause-bytes g c =
    let pending = c.args.pending.now in
    let piece = c.args.piece.now in
    let zeros : List ℕ = drop (length pending) (replicate g.row.N 0) in
    let first = c.copy_from_slice.new.self in
    let second = c.copy_from_slice-2.new.self in
    let front : first ≡ pending = search rules in
    let behind : second ≡ take c.min.result piece = search rules in
    let same : length first ≡ length pending = search rules in
    let long : length (first ++ zeros) ≡ length first + length zeros = length-append first zeros in
    let ends : length pending + length (take c.min.result piece) ≡ length pending + length second = search rules in
    let begins : length pending ≤ length (first ++ zeros) = omega arith in
    let enough : (length piece ≤ c.min.result) ⊎ (g.row.N - length pending ≤ c.min.result) = ⊎_elim
    (λ (few : length piece < g.row.N - length pending). inl (omega (arith, few, c.min.ensures)))
    (λ (many : g.row.N - length pending ≤ length piece). inr (omega (arith, many, c.min.ensures)))
    (cases_lt (length piece) (g.row.N - length pending)) in
    take-put_mid (length pending) (length pending + length (take c.min.result piece) - length pending) (first ++ zeros) second _ ends begins
    ∙ ap₂ (λ f b. f ++ b) (take_at first zeros (length pending) same ∙ front) behind
    ∙ start_bytes g.row.N pending piece c.min.result (omega (arith, c.requires)) (omega (arith, c.min.ensures)) enough
