use Rattle.std.proofs.Common.{length, string_bytes}
use Rattle.utf16_units.proofs.FirstChar.{AreBytes}
use Rattle.utf16_tools.specs.Decodes.{Decodes}
use Rattle.uses_buffers.proofs.headline.resume.Given as goal

-- what precedes the rest is decoded
abbrev pub invariant-loop-text : goal.invariant-loop-text
invariant-loop-text g l = Decodes g.E.Utf16Order.BIG l.bytes l.rest (string_bytes l.fn.to) (string_bytes l.to) × AreBytes l.rest

abbrev pub decreases-loop-text : goal.decreases-loop-text
decreases-loop-text g l = length l.rest
