use Rattle.std.proofs.Common.{◌≡◌, ◌≤◌, length}
use Rattle.utf16string.specs.WString.{Extends, wstring_bytes, wstring_capacity}
use Rattle.utf16string.proofs.wstring.WString.extend.Given as goal

-- the characters so far are appended to the old text, and the capacity is the same if they fit
abbrev pub invariant-loop-ch : goal.invariant-loop-ch
invariant-loop-ch g l =
    Extends l.fn.self l.yielded l.self
    × (wstring_capacity l.fn.self ≤ wstring_capacity l.self)
    × (length (wstring_bytes l.self) ≤ wstring_capacity l.fn.self → wstring_capacity l.self ≡ wstring_capacity l.fn.self)
