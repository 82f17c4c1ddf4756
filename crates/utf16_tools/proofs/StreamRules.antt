-- The rules of `utf16_streams` for a reader of a stream, chunk by chunk, under the name of this
-- crate.
use Rattle.utf16_streams.proofs.StreamRules as below
pub use Rattle.utf16_streams.proofs.StreamRules.{IsByte, Reads, Reads-all, Reads-more, Reads-none, Reads-piece, Reads-some, Reads-start, ReadsPieces, bytes-all, bytes-more, chars_full, chars_marked, chars_of, chars_of_any, chars_of_whole, items_none, scalars_full, scalars_lossy, tail_none}

pub ruleset streams = (below.streams)
