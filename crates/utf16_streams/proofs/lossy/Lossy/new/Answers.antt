use Rattle.std.proofs.Common.{sym, ap, ◌∙◌}
use Rattle.utf16_units.specs.Split.{split_tail}
use Rattle.utf16_streams.proofs.lossy.Lossy.new.Goals as goal

pub invariant_of-result : goal.invariant_of-result
unfolding split_tail
invariant_of-result g c = record { undecided = ap (split_tail g.E.Utf16Order.BIG) c.new.ensures.pending ∙ sym c.new.ensures.pending }

pub returns : goal.returns
returns g c = cc
