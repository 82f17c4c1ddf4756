use Rattle.std.proofs.Common.{false}
use Rattle.utf16_streams.proofs.EncoderLemmas.{from_start}
use Rattle.utf16_streams.proofs.encode_filters.encode_stream.Goals as goal

pub returns-clause-transfers : goal.returns-clause-transfers
returns-clause-transfers g c = from_start g.E.Utf16Order.BIG false _ _ _ _ _ _ _ c.new.ensures.bom_due c.new.ensures.pending c.filter_by.ensures.transfers
