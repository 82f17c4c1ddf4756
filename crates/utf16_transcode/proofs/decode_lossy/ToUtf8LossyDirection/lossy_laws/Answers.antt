use Rattle.utf16_transcode.proofs.DecodeLossyLemmas.{DecodesTo-front, stops_lossy}
use Rattle.utf16_transcode.proofs.ToUtf8Parts.{utf16_chunks, utf8_short}
use Rattle.utf16_transcode.proofs.decode_lossy.ToUtf8LossyDirection.lossy_laws.Goals as goal

pub returns-clause-chunks : goal.returns-clause-chunks
returns-clause-chunks g c = utf16_chunks g.E.Utf16Order.BIG

pub returns-clause-short : goal.returns-clause-short
returns-clause-short g c = utf8_short

pub returns-clause-text : goal.returns-clause-text
returns-clause-text g c input to n w wrote = DecodesTo-front g.E.Utf16Order.BIG input to n w wrote.within wrote.fits wrote.gives

pub returns-clause-stops : goal.returns-clause-stops
returns-clause-stops g c = stops_lossy g.E.Utf16Order.BIG
