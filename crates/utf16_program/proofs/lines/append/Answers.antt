use Rattle.std.proofs.Common.{ℕ, Bor, List, [], append-nil, ap, arith, length, length-append, sym, take, ◌∙◌}
use Rattle.std.proofs.lemmas.List.Folds.{length-flat_map-take}
use Rattle.std.specs.List.{flat_map}
use Rattle.utf16_program.proofs.LineLemmas.{Appends-err}
use Rattle.utf16_program.proofs.lines.append.Goals as goal

pub returns-in_err-reserve : goal.returns-in_err-reserve
returns-in_err-reserve g c =
    let failed = c.in_err-reserve.ensures in
    Appends-err _ _ [] _ _ c.from_residual.ensures.0 (failed.items ∙ sym (append-nil c.args.lines.now.items)) (omega (arith, failed.capacity)) (omega (arith, failed.full, c.len_of.ensures))

pub returns-in_err-extend_from_slice : goal.returns-in_err-extend_from_slice
returns-in_err-extend_from_slice g c =
    let fits = length-flat_map-take (λ (p : Bor (List ℕ)). p.now) c.args.parts.now _ (record { ref_ptr = (0, 0); now = [] }) c.loop-part-test.true in
    let so_far = c.loop-part.invariant in
    let long = length-append c.args.lines.now.items (flat_map (λ (p : Bor (List ℕ)). p.now) (take c.loop-part.part-index c.args.parts.now)) in
    absurd (omega (arith, fits, so_far, c.in_err-extend_from_slice.ensures.full, ap length so_far.0, long, c.args.lines.now.ok.0, c.loop-part.lines.ok.0))
