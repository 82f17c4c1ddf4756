use Rattle.std.proofs.Common.{◌≡◌, map, take}
use Rattle.utf16_units.specs.Delimited.{ended}
use Rattle.utf16string.specs.WStr.{wstr_text}
use Rattle.utf16string.specs.WString.{wstring_text}
use Rattle.examples.proofs.multi_sz.joined.Given as goal

-- the texts so far, each with its NUL
abbrev pub invariant-loop-text : goal.invariant-loop-text
invariant-loop-text g l = wstring_text l.table ≡ ended 0 (map wstr_text (take l.text-index l.texts))
