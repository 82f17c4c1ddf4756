use Rattle.std.proofs.Common.{◌+◌, ◌-◌, subst, sym}
use Rattle.utf16_bytes.specs.Boundary.{IsLastCut}
use Rattle.utf16_bytes.specs.File.{around_start, bytes_around}
use Rattle.utf16_bytes.proofs.WindowLemmas.{IsLastCut-around}
use Rattle.utf16_bytes.proofs.file.floor_char_boundary_around.Goals as goal

pub returns-clause-file : goal.returns-clause-file
returns-clause-file g c file window within =
    let at = c.args.at in
    let n = c.floor_char_boundary.result in
    let big = g.E.Utf16Order.BIG in
    let start = c.saturating_sub-start.ensures in
    let last : IsLastCut big (bytes_around file at) (at - around_start at) n =
    subst (λ bytes. IsLastCut big bytes (at - around_start at) n) window (subst (λ s. IsLastCut big c.args.around.now (at - s) n) start c.floor_char_boundary.ensures.last) in
    subst (λ s. IsLastCut big file at (s + n)) (sym start) (IsLastCut-around big file at n last within)
