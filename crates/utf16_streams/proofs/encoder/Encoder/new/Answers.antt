use Rattle.std.proofs.Common.{sym, ap, ◌∙◌}
use Rattle.utf8_bytes.specs.Split.{split_tail}
use Rattle.utf16_streams.proofs.EncoderLemmas.{nothing_waits}
use Rattle.utf16_streams.proofs.encoder.Encoder.new.Goals as goal

pub invariant_of-result : goal.invariant_of-result
invariant_of-result g c = record { undecided = ap split_tail c.new.ensures.pending ∙ nothing_waits ∙ sym c.new.ensures.pending }
