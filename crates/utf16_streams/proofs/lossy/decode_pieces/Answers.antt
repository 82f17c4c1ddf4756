use Rattle.std.proofs.Common.{flat_map, string_bytes}
use Rattle.std.specs.Vec.{vec_items}
use Rattle.utf16_streams.proofs.StreamRules.{chars_of_whole}
use Rattle.utf16_streams.proofs.lossy.decode_pieces.Goals as goal

pub returns-clause-chars : goal.returns-clause-chars
returns-clause-chars g c = chars_of_whole g.E.Utf16Order.BIG (flat_map vec_items c.args.pieces.now) c.decode_each.result string_bytes c.decode_each.ensures.are_bytes c.decode_each.ensures.text
