use Rattle.std.proofs.Common.{◌≡◌, ℕ, ◌+◌, ◌≤◌, min, List, length, take, drop, ap, ◌∙◌, subst, arith, length-drop}
use Rattle.std.proofs.lemmas.List.{take_min}
use Rattle.std.specs.List.{slice_range}
use Rattle.utf16_bytes.specs.Boundary.{IsLastCut}
use Rattle.utf16_bytes.specs.File.{around_start, bytes_around}
use Rattle.uses_buffers.proofs.cuts.part_start.Goals as goal

-- four bytes of the file, or as many as it has
four : (file : List ℕ) (at start end : ℕ) → start ≡ around_start at → end ≡ min (length file) (start + 4) → start ≤ length file
    → slice_range file start end ≡ bytes_around file at
four file at start end is until within =
    ap (λ n. take n (drop start file)) (omega (arith, until, length-drop start file))
    ∙ take_min 4 (drop start file)
    ∙ ap (λ s. take 4 (drop s file)) is

pub returns : goal.returns
returns g c =
    let file = c.args.file.now in
    let at = c.shard_offset-at.result in
    subst (λ k. IsLastCut g.E.Utf16Order.BIG file k c.floor_char_boundary_around.result) c.shard_offset-at.ensures.value
    (c.floor_char_boundary_around.ensures.file file
    (four file at c.saturating_sub-start.result c.min.result c.saturating_sub-start.ensures c.min.ensures (omega arith))
    c.shard_offset-at.ensures.within)
