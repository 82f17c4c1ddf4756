use Rattle.std.proofs.Common.{◌++◌, ◌-◌, []}
use Rattle.utf16_str.specs.WStr.{wstr_text}
use Rattle.utf16string.specs.Replace.{replaced_first}
use Rattle.utf16string.specs.WString.{wstring_capacity, wstring_text}
use Rattle.utf16string.proofs.Replacing.{Ahead, Grown}
use Rattle.utf16string.proofs.wstring.replaces.push_between.Given as goal

-- what was appended, and the characters that are left, make the whole
abbrev pub invariant-loop : goal.invariant-loop
invariant-loop g l =
    let whole = replaced_first l.fn.count [] (wstr_text l.fn.to) (wstr_text l.fn.text) in
    Ahead [] (wstr_text l.fn.to) (wstring_text l.fn.made ++ whole)
    (l.fn.count - l.counter) (wstring_text l.made) l.chars
    × Grown (wstring_text l.fn.made) whole (wstring_text l.made) (wstring_capacity l.fn.made) (wstring_capacity l.made)
