use Rattle.utf16_transcode.specs.Stream.{stream_pending}
use Rattle.utf16_streams.proofs.EncoderLemmas.{certain-none, certain-some}
use Rattle.utf16_streams.proofs.encoder.EncoderTranscoder.laws.Goals as goal

pub returns-clause-nothing : goal.returns-clause-nothing
returns-clause-nothing g c = certain-none g.E.Utf16Order.BIG c.args.self.now.bom_due (stream_pending c.args.self.now.stream) c.args.self.now.undecided

pub returns-clause-eight : goal.returns-clause-eight
returns-clause-eight g c = certain-some g.E.Utf16Order.BIG c.args.self.now.bom_due (stream_pending c.args.self.now.stream)
