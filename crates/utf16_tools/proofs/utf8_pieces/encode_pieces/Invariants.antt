use Rattle.std.proofs.Common.{take}
use Rattle.std.specs.List.{flat_map}
use Rattle.std.specs.Vec.{vec_items}
use Rattle.utf16string.specs.WString.{wstring_text}
use Rattle.utf16_tools.specs.Utf8Decoder.{utf8_decoder_pending}
use Rattle.utf16_tools.proofs.Utf8PiecesLemmas.{IsTextOf}
use Rattle.utf16_tools.proofs.utf8_pieces.encode_pieces.Given as goal

-- the text so far is the text of the chunks so far, and their tail is pending
abbrev pub invariant-loop-piece : goal.invariant-loop-piece
invariant-loop-piece g l = IsTextOf (flat_map vec_items (take l.piece-index l.pieces)) (wstring_text l.text) (utf8_decoder_pending l.decoder)
