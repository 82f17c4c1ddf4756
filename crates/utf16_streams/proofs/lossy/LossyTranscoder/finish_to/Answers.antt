use Rattle.std.proofs.Common.{Some, sym, ◌∙◌}
use Rattle.utf16_transcode.proofs.StreamLemmas.{finished}
use Rattle.utf16_streams.specs.Lossy.{lossy_pending}
use Rattle.utf16_streams.proofs.Utf8Lemmas.{whole_utf8-none, whole_utf8-some}
use Rattle.utf16_streams.proofs.lossy.LossyTranscoder.finish_to.Goals as goal

pub returns-in-Some-clause-bytes : goal.returns-in-Some-clause-bytes
returns-in-Some-clause-bytes g c =
    let pending = lossy_pending c.args.self in
    c.put.ensures.bytes
    ∙ sym (whole_utf8-some (Some g.E.Utf16Order.BIG) pending c.args.self.undecided (finished _ _ pending c.in-Some.is c.finish.ensures.none c.finish.ensures.replacement).0)

pub returns-in-None-clause-bytes : goal.returns-in-None-clause-bytes
returns-in-None-clause-bytes g c =
    sym (whole_utf8-none (Some g.E.Utf16Order.BIG) (lossy_pending c.args.self) c.args.self.undecided (c.finish.ensures.none.0 c.in-None.is))
