use Rattle.std.proofs.Common.{sym, ap, ◌∙◌}
use Rattle.utf8_bytes.specs.Split.{split_tail}
use Rattle.utf16_tools.proofs.utf8_decoder.Utf8Decoder.new.Goals as goal

pub invariant_of-result : goal.invariant_of-result
unfolding split_tail
invariant_of-result g c = record { undecided = ap split_tail c.new.ensures.pending ∙ sym c.new.ensures.pending }

pub returns : goal.returns
returns g c = cc
