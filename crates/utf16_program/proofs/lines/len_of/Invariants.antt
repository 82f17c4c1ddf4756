use Rattle.std.proofs.Common.{◌≡◌, ◌-◌, ◌^◌, length, min, take}
use Rattle.std.specs.List.{flat_map}
use Rattle.utf16_program.proofs.lines.len_of.Given as goal

abbrev pub invariant-loop-part : goal.invariant-loop-part
invariant-loop-part l = l.len ≡ min (length (flat_map (λ p. p.now) (take l.part-index l.parts))) (2 ^ 64 - 1)
