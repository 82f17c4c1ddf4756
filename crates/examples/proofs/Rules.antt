-- A set of rules for the transcoders, which a function cites with `using(..)`: the empty text has
-- no bytes, and no bytes are the empty text.
use Rattle.std.proofs.lemmas.Str.{chars-nil}
use Rattle.utf16_units.proofs.EncodingLemmas.{encode-nil, text_of-nil}

pub ruleset empty = (chars-nil, encode-nil, text_of-nil)
