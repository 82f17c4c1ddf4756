use Rattle.std.proofs.Common.{◌≡◌, sym, ◌∙◌, subst}
use Rattle.utf16_transcode.proofs.StreamLemmas.{finished}
use Rattle.utf16_streams.specs.AnyLossy.{any_byte_order, any_pending}
use Rattle.utf16_streams.specs.Bom.{tail_in}
use Rattle.utf16_streams.proofs.Utf8Lemmas.{whole_utf8-none, whole_utf8-some}
use Rattle.utf16_streams.proofs.any_lossy.AnyLossyTranscoder.finish_to.Goals as goal

pub returns-in-Some-clause-bytes : goal.returns-in-Some-clause-bytes
returns-in-Some-clause-bytes c =
    let order = any_byte_order c.args.self in let pending = any_pending c.args.self in
    let same = subst (λ p. tail_in order p ≡ p) c.pending.ensures.bytes c.pending.ensures.undecided in
    c.put.ensures.bytes ∙ sym (whole_utf8-some order pending same (finished _ _ pending c.in-Some.is c.finish.ensures.none c.finish.ensures.replacement).0)

pub returns-in-None-clause-bytes : goal.returns-in-None-clause-bytes
returns-in-None-clause-bytes c =
    let order = any_byte_order c.args.self in let pending = any_pending c.args.self in
    let same = subst (λ p. tail_in order p ≡ p) c.pending.ensures.bytes c.pending.ensures.undecided in
    sym (whole_utf8-none order pending same (c.finish.ensures.none.0 c.in-None.is))
