use Rattle.std.proofs.Common.{◌≡◌, Some, refl, ◌*◌, ◌≤◌, ◌++◌, length, length-append, ap, subst, arith}
use Rattle.utf16_units.proofs.FirstChar.{AreBytes, AreBytes-from_All}
use Rattle.utf16_units.specs.Split.{split_items}
use Rattle.utf16_transcode.proofs.DecodesLemmas.{shown}
use Rattle.utf16_transcode.specs.Stream.{stream_pending}
use Rattle.utf16_transcode.specs.declared.progress.Stop.TheVariants.{Done}
use Rattle.utf16_streams.proofs.PartLemmas.{AreBytes-append, shown_most}
use Rattle.utf16_streams.proofs.Utf8Lemmas.{Continues-utf8}
use Rattle.utf16_streams.proofs.lossy.LossyTranscoder.feed_to.Given.{Over}
use Rattle.utf16_streams.proofs.lossy.LossyTranscoder.feed_to.Goals as goal
use Rattle.utf16_streams.proofs.lossy.LossyTranscoder.feed_to.Goals.{After-feed}

-- the text that is certain fits
whole : (g : Over) (c : After-feed g) → c.feed.result.stop ≡ Done
whole g c =
    let bytes = subst AreBytes c.pending.ensures.bytes (AreBytes-from_All _ c.are_bytes.ensures) in
    let pending = stream_pending c.args.self.now.stream in
    let all : AreBytes (pending ++ c.args.piece.now) = AreBytes-append _ _ bytes (λ k. omega (arith, c.type_inv.piece k)) in
    let most : 2 * length (shown (split_items g.E.Utf16Order.BIG (pending ++ c.args.piece.now))) ≤ 3 * length (pending ++ c.args.piece.now) = shown_most g.E.Utf16Order.BIG _ all in
    c.feed.ensures.done.1 (omega (arith, most, length-append pending c.args.piece.now, ap length c.pending.ensures.bytes, c.pending.ensures.few))

pub invariant_of-self : goal.invariant_of-self
invariant_of-self g c = record { undecided = c.feed.ensures.undecided (whole g (goal.at.invariant_of-self g c).After-feed) }

pub returns-clause-bytes : goal.returns-clause-bytes
returns-clause-bytes g c = c.feed.ensures.text (whole g (goal.at.returns-clause-bytes g c).After-feed)

pub returns-clause-pending : goal.returns-clause-pending
returns-clause-pending g c = c.feed.ensures.pending (whole g (goal.at.returns-clause-pending g c).After-feed)

pub returns-clause-continues : goal.returns-clause-continues
returns-clause-continues g c =
    let order = Some g.E.Utf16Order.BIG in
    Continues-utf8 order order (stream_pending c.args.self.now.stream) c.args.piece.now (stream_pending c.feed.new.self) refl
    (c.feed.ensures.pending (whole g (goal.at.returns-clause-continues g c).After-feed))
