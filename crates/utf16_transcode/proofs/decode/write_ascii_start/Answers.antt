use Rattle.utf16_transcode.proofs.ToUtf8Lemmas.{utf8_empty}
use Rattle.utf16_transcode.proofs.TranscodedLemmas.{Writes-none}
use Rattle.utf16_transcode.proofs.decode.write_ascii_start.Goals as goal

pub returns-then-raw-lt16-clause-wrote : goal.returns-then-raw-lt16-clause-wrote
returns-then-raw-lt16-clause-wrote g c = Writes-none (utf8_empty g.E.Utf16Order.BIG) _ _

pub returns-in_default-clause-wrote : goal.returns-in_default-clause-wrote
returns-in_default-clause-wrote g c = Writes-none (utf8_empty g.E.Utf16Order.BIG) _ _

pub write_ascii_from-requires : goal.write_ascii_from-requires
write_ascii_from-requires g c = Writes-none (utf8_empty g.E.Utf16Order.BIG) _ _
