use Rattle.utf16_transcode.proofs.ToUtf8Parts.{utf8_short}
use Rattle.utf16_wtf8.proofs.ToWtf8Lemmas.{DecodesToWtf8-text, stops_before_tail, wtf8_chunks}
use Rattle.utf16_wtf8.proofs.direction.ToWtf8LossyDirection.lossy_laws.Goals as goal

pub returns-clause-chunks : goal.returns-clause-chunks
returns-clause-chunks g c = wtf8_chunks g.E.Utf16Order.BIG

pub returns-clause-short : goal.returns-clause-short
returns-clause-short g c = utf8_short

pub returns-clause-text : goal.returns-clause-text
returns-clause-text g c = DecodesToWtf8-text g.E.Utf16Order.BIG

pub returns-clause-stops : goal.returns-clause-stops
returns-clause-stops g c = stops_before_tail g.E.Utf16Order.BIG
