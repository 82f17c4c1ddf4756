use Rattle.std.proofs.Common.{None}
use Rattle.utf16_streams.proofs.Utf8Lemmas.{from_start}
use Rattle.utf16_streams.proofs.filters.filter_auto.Goals as goal

pub returns-clause-transfers : goal.returns-clause-transfers
returns-clause-transfers g c = from_start None _ _ _ _ _ _ _ c.new.ensures.byte_order c.new.ensures.pending c.filter_by.ensures.transfers
