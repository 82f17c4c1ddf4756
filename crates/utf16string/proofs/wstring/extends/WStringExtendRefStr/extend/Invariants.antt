use Rattle.std.specs.Str.{chars}
use Rattle.utf16string.proofs.Joined.{Joined}
use Rattle.utf16string.proofs.wstring.extends.WStringExtendRefStr.extend.Given as goal

abbrev pub invariant-loop-string : goal.invariant-loop-string
invariant-loop-string g l = Joined (λ s. chars s.now) l.fn.self l.yielded l.self
