use Rattle.uses_buffers.proofs.Utf8Joined.{Joined}
use Rattle.uses_buffers.proofs.utf8_parts.push_parts.Given as goal
use Rattle.utf16string.specs.WString.{wstring_text}

-- the string has the text of the parts so far
abbrev pub invariant-loop-end : goal.invariant-loop-end
invariant-loop-end g l = Joined l.utf8 l.ends (wstring_text l.fn.to) l.end-index l.start (wstring_text l.to)
