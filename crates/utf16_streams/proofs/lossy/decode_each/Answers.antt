use Rattle.std.proofs.Common.{◌++◌, All, true≢false, refl, sym, ap, ap₂, ◌∙◌, subst}
use Rattle.std.proofs.lemmas.List.Elements.{All-nil}
use Rattle.std.specs.Char.{encode_utf8}
use Rattle.std.specs.Vec.{vec_items}
use Rattle.utf16_units.specs.Split.{split_items, split_tail}
use Rattle.utf16_transcode.proofs.StreamLemmas.{finished}
use Rattle.utf16_transcode.proofs.DecodesLemmas.{shown}
use Rattle.utf16_streams.specs.Lossy.{lossy_pending}
use Rattle.utf16_streams.proofs.PiecesLemmas.{pieces-end, pieces-shown, pieces-tail, pieces-whole, pieces_decide_nothing, pieces_leave_nothing}
use Rattle.utf16_streams.proofs.StreamRules.{IsByte, bytes-all, bytes-more}
use Rattle.utf16_streams.proofs.lossy.decode_each.Goals as goal

pub loop-piece-init : goal.loop-piece-init
unfolding split_items split_tail
loop-piece-init g c = (c.new-text.ensures.bytes, c.new-decoder.ensures, All-nil IsByte)

pub loop-piece-preserved : goal.loop-piece-preserved
loop-piece-preserved g c =
    let same = ap₂ (λ p b. p ++ b) c.loop-piece.invariant.1 c.deref-in-loop-piece.ensures.value in (
      c.in_ok-feed_into.ensures.text ∙ ap₂ (λ t b. t ++ shown (split_items g.E.Utf16Order.BIG b)) c.loop-piece.invariant.0 same
          ∙ pieces-shown g.E.Utf16Order.BIG vec_items c.args.pieces.now c.loop-piece.piece-index c.piece-item.result c.loop-piece-test.true c.piece-item.is,
      c.in_ok-feed_into.ensures.pending ∙ ap (split_tail g.E.Utf16Order.BIG) same
          ∙ pieces-tail g.E.Utf16Order.BIG vec_items c.args.pieces.now c.loop-piece.piece-index c.piece-item.result c.loop-piece-test.true c.piece-item.is,
      bytes-more vec_items c.args.pieces.now c.loop-piece.piece-index c.piece-item.result c.loop-piece-test.true c.piece-item.is c.loop-piece.invariant.2
          (subst (All IsByte) c.deref.ensures.value c.are_bytes.ensures),
    )

pub returns-in_err-feed_into-clause-nothing : goal.returns-in_err-feed_into-clause-nothing
returns-in_err-feed_into-clause-nothing g c none =
    let same = ap₂ (λ p b. p ++ b) c.loop-piece.invariant.1 c.deref-in-loop-piece.ensures.value in
    absurd (true≢false (sym (c.in_err-feed_into.ensures.nothing (ap (split_items g.E.Utf16Order.BIG) same
    ∙ pieces_decide_nothing g.E.Utf16Order.BIG vec_items c.args.pieces.now c.loop-piece.piece-index c.piece-item.result c.loop-piece-test.true c.piece-item.is none))))

pub returns-in_default-clause-nothing : goal.returns-in_default-clause-nothing
returns-in_default-clause-nothing g c none = refl

pub returns-in_default-clause-text : goal.returns-in_default-clause-text
returns-in_default-clause-text g c = c.loop-piece.invariant.0
    ∙ pieces-whole g.E.Utf16Order.BIG vec_items c.args.pieces.now c.loop-piece.piece-index c.loop-piece-test.false (sym c.loop-piece.invariant.1 ∙ c.finish.ensures.none.0 c.in_default.is)

pub returns-in_err-push-clause-nothing : goal.returns-in_err-push-clause-nothing
returns-in_err-push-clause-nothing g c none =
    let end = finished c.finish.result c.in-Some.replacement (lossy_pending c.loop-piece.decoder) c.in-Some.is c.finish.ensures.none c.finish.ensures.replacement in
    absurd (end.0 (c.loop-piece.invariant.1 ∙ pieces_leave_nothing g.E.Utf16Order.BIG vec_items c.args.pieces.now c.loop-piece.piece-index none))

pub returns-clause-text : goal.returns-clause-text
returns-clause-text g c =
    let end = finished c.finish.result c.in-Some.replacement (lossy_pending c.loop-piece.decoder) c.in-Some.is c.finish.ensures.none c.finish.ensures.replacement in
    c.in_ok-push.ensures.bytes ∙ ap₂ (λ t m. t ++ encode_utf8 m) c.loop-piece.invariant.0 end.1
    ∙ pieces-end g.E.Utf16Order.BIG vec_items c.args.pieces.now c.loop-piece.piece-index c.loop-piece-test.false (λ none. end.0 (c.loop-piece.invariant.1 ∙ none))

pub returns-in_default-clause-are_bytes : goal.returns-in_default-clause-are_bytes
returns-in_default-clause-are_bytes g c = bytes-all vec_items c.args.pieces.now c.loop-piece.piece-index c.loop-piece-test.false c.loop-piece.invariant.2

pub returns-clause-are_bytes : goal.returns-clause-are_bytes
returns-clause-are_bytes g c = bytes-all vec_items c.args.pieces.now c.loop-piece.piece-index c.loop-piece-test.false c.loop-piece.invariant.2
