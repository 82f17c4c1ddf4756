use Rattle.std.proofs.Common.{◌≡◌, ◌+◌, ◌≤◌, ◌++◌, length, take, vec_capacity, vec_len}
use Rattle.std.specs.List.{flat_map}
use Rattle.utf16_program.proofs.lines.append.Given as goal

abbrev pub invariant-loop-part : goal.invariant-loop-part
invariant-loop-part g l =
    (l.lines.items ≡ l.fn.lines.items ++ flat_map (λ p. p.now) (take l.part-index l.parts))
    × (vec_capacity l.fn.lines ≤ vec_capacity l.lines)
    × (vec_len l.fn.lines + length (flat_map (λ p. p.now) l.parts) ≤ vec_capacity l.lines)
