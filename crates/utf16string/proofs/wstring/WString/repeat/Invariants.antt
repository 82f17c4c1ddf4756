use Rattle.std.proofs.Common.{◌≡◌, ◌≤◌}
use Rattle.std.specs.List.{repeat}
use Rattle.std.specs.Vec.{vec_capacity}
use Rattle.utf16string.specs.WString.{wstring_bytes}
use Rattle.utf16string.proofs.wstring.WString.repeat.Given as goal

abbrev pub invariant-loop : goal.invariant-loop
invariant-loop g l = (l.raw.items ≡ repeat l.counter (wstring_bytes l.self)) × (l.len ≤ vec_capacity l.raw)
