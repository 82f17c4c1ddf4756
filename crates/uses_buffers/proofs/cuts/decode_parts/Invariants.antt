use Rattle.std.proofs.Common.{string_bytes}
use Rattle.uses_buffers.proofs.CutsJoined.{Joined}
use Rattle.uses_buffers.proofs.cuts.decode_parts.Given as goal

-- the text is the text of the parts so far
abbrev pub invariant-loop-to : goal.invariant-loop-to
invariant-loop-to g l = Joined g.E.Utf16Order.BIG l.file l.starts l.to-index l.from (string_bytes l.text)
