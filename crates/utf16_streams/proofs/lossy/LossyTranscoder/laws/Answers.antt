use Rattle.std.proofs.Common.{Some}
use Rattle.utf16_streams.specs.Lossy.{lossy_pending}
use Rattle.utf16_streams.proofs.Utf8Lemmas.{decided_utf8-none, decided_utf8-some}
use Rattle.utf16_streams.proofs.lossy.LossyTranscoder.laws.Goals as goal

pub returns-clause-nothing : goal.returns-clause-nothing
returns-clause-nothing g c = decided_utf8-none (Some g.E.Utf16Order.BIG) (lossy_pending c.args.self.now) c.args.self.now.undecided

pub returns-clause-eight : goal.returns-clause-eight
returns-clause-eight g c = decided_utf8-some (Some g.E.Utf16Order.BIG) (lossy_pending c.args.self.now)
