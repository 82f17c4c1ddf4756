use Rattle.utf16_transcode.proofs.DecodesUtf8.{DecodesUtf8To-text, stops_text}
use Rattle.utf16_transcode.proofs.FeedsUtf8.{utf16_short, utf8_chunks}
use Rattle.utf16_transcode.proofs.encode_lossy.FromUtf8LossyDirection.lossy_laws.Goals as goal

pub returns-clause-chunks : goal.returns-clause-chunks
returns-clause-chunks g c = utf8_chunks

pub returns-clause-short : goal.returns-clause-short
returns-clause-short g c = utf16_short g.E.Utf16Order.BIG

pub returns-clause-text : goal.returns-clause-text
returns-clause-text g c = DecodesUtf8To-text g.E.Utf16Order.BIG

pub returns-clause-stops : goal.returns-clause-stops
returns-clause-stops g c = stops_text g.E.Utf16Order.BIG
