use Rattle.std.proofs.Common.{◌≡◌, ◌+◌, ◌≤◌, All, length}
use Rattle.utf16string.specs.WString.{wstring_capacity, wstring_text}
use Rattle.utf16_tools.specs.Step.{MayAllocate, Run}
use Rattle.utf16_tools.proofs.Served.{AreServed}
use Rattle.utf16_tools.proofs.edit.apply_each.Given as goal

abbrev pub invariant-loop-edit : goal.invariant-loop-edit
invariant-loop-edit g l =
    Run (wstring_text l.fn.string) l.yielded l.replies.items (wstring_text l.string)
    × (l.replies.len + length l.edit-iterator.rest.items ≤ l.replies.cap)
    × (All (λ edit. ¬ (MayAllocate edit)) l.yielded → wstring_capacity l.string ≡ wstring_capacity l.fn.string)
    × (wstring_capacity l.fn.string ≤ wstring_capacity l.string)
    × AreServed (wstring_capacity l.fn.string) (wstring_text l.fn.string) l.yielded l.replies.items (wstring_text l.string)
