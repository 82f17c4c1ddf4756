use Rattle.std.proofs.Common.{All, map, take}
use Rattle.examples.specs.MultiSz.{IsMultiSzEntry}
use Rattle.utf16string.specs.WStr.{wstr_text}
use Rattle.examples.proofs.multi_sz.check.Given as goal

-- the texts so far can be in a table
abbrev pub invariant-loop-i : goal.invariant-loop-i
invariant-loop-i g l = All IsMultiSzEntry (take l.i (map wstr_text l.texts))
