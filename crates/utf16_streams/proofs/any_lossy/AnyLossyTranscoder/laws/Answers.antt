use Rattle.std.proofs.Common.{◌≡◌, subst}
use Rattle.utf16_streams.specs.AnyLossy.{any_byte_order, any_pending}
use Rattle.utf16_streams.specs.Bom.{tail_in}
use Rattle.utf16_streams.proofs.Utf8Lemmas.{decided_utf8-none, decided_utf8-some}
use Rattle.utf16_streams.proofs.any_lossy.AnyLossyTranscoder.laws.Goals as goal

pub returns-clause-nothing : goal.returns-clause-nothing
returns-clause-nothing c =
    let order = any_byte_order c.args.self.now in
    decided_utf8-none order (any_pending c.args.self.now) (subst (λ p. tail_in order p ≡ p) c.pending.ensures.bytes c.pending.ensures.undecided)

pub returns-clause-eight : goal.returns-clause-eight
returns-clause-eight c = decided_utf8-some (any_byte_order c.args.self.now) (any_pending c.args.self.now)
