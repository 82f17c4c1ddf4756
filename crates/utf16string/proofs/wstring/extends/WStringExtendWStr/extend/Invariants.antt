use Rattle.utf16_str.specs.WStr.{wstr_text}
use Rattle.utf16string.proofs.Joined.{Joined}
use Rattle.utf16string.proofs.wstring.extends.WStringExtendWStr.extend.Given as goal

abbrev pub invariant-loop-text : goal.invariant-loop-text
invariant-loop-text g l = Joined wstr_text l.fn.self l.yielded l.self
