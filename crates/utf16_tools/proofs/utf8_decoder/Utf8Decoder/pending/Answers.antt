use Rattle.std.proofs.Common.{◌∙◌, ap, sym}
use Rattle.utf8_bytes.specs.Split.{split_tail}
use Rattle.utf16_tools.proofs.Utf8PartLemmas.{IsTail-pending}
use Rattle.utf16_tools.proofs.utf8_decoder.Utf8Decoder.pending.Goals as goal

pub returns-clause-tail : goal.returns-clause-tail
returns-clause-tail g c =
    IsTail-pending c.pending-pending.result.now
    (ap split_tail c.pending-pending.ensures.bytes ∙ c.args.self.now.undecided ∙ sym c.pending-pending.ensures.bytes)

pub returns-clause-bytes : goal.returns-clause-bytes
returns-clause-bytes g c = c.pending-pending.ensures.bytes
