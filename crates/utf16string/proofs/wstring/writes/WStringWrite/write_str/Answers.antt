use Rattle.utf16string.specs.WString.{wstring_text}
use Rattle.utf16string.proofs.Written.{utf8-pushed}
use Rattle.utf16string.proofs.wstring.writes.WStringWrite.write_str.Goals as goal

pub returns-clause-ok : goal.returns-clause-ok
returns-clause-ok g c = λ _. utf8-pushed (wstring_text c.args.self.now) (wstring_text c.push_str.new.self) c.args.s.now c.utf8.s c.in_ok-push_str.ensures.text
