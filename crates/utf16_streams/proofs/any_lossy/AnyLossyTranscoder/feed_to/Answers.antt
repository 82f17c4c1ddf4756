use Rattle.std.proofs.Common.{◌≡◌, ◌++◌, rules}
use Rattle.utf16_streams.specs.AnyLossy.{any_byte_order, any_pending, state_byte_order, state_pending}
use Rattle.utf16_streams.specs.Bom.{byte_order_after, tail_in}
use Rattle.utf16_streams.proofs.Utf8Lemmas.{Continues-utf8}
use Rattle.utf16_streams.proofs.any_lossy.AnyLossyTranscoder.feed_to.Goals as goal

pub returns-in-Undecided-clause-continues : goal.returns-in-Undecided-clause-continues
returns-in-Undecided-clause-continues c =
    let order = any_byte_order c.args.self.now in let pending = any_pending c.args.self.now in
    let now = c.feed_to-written.new.self in
    let told : state_byte_order now ≡ byte_order_after order (pending ++ c.args.piece.now) = search rules in
    let tail : state_pending now ≡ tail_in order (pending ++ c.args.piece.now) = search rules in
    Continues-utf8 order (state_byte_order now) pending c.args.piece.now (state_pending now) told tail

pub returns-in_default-clause-continues : goal.returns-in_default-clause-continues
returns-in_default-clause-continues c =
    let now = c.feed_to.new.self in
    Continues-utf8 (any_byte_order c.args.self.now) (state_byte_order now) (any_pending c.args.self.now) c.args.piece.now (state_pending now)
    c.feed_to.ensures.byte_order c.feed_to.ensures.pending
