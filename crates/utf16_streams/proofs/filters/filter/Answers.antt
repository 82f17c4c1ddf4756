use Rattle.std.proofs.Common.{Some, refl}
use Rattle.utf16_streams.proofs.Utf8Lemmas.{from_start}
use Rattle.utf16_streams.proofs.filters.filter.Goals as goal

pub returns-clause-transfers : goal.returns-clause-transfers
returns-clause-transfers g c = from_start (Some g.E.Utf16Order.BIG) _ _ _ _ _ _ _ refl c.new.ensures c.filter_by.ensures.transfers
