use Rattle.std.proofs.Common.{◌≡◌, ◌++◌, map}
use Rattle.examples.specs.MultiSz.{texts_in}
use Rattle.utf16string.specs.WStr.{wstr_text}
use Rattle.examples.proofs.multi_sz.read.Given as goal

-- the texts found so far and the texts left are all texts of the table
abbrev pub invariant-loop-text : goal.invariant-loop-text
invariant-loop-text g l = map wstr_text l.found.items ++ l.text-iterator ≡ texts_in (wstr_text l.table)
