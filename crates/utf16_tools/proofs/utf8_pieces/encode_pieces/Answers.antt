use Rattle.std.proofs.Common.{◌++◌, ◌∷◌, [], true≢false, sym, ap, ◌∙◌}
use Rattle.std.specs.Vec.{vec_items}
use Rattle.utf16_transcode.proofs.StreamLemmas.{finished}
use Rattle.utf16string.specs.WString.{wstring_text}
use Rattle.utf16_tools.specs.Utf8Decoder.{utf8_decoder_pending}
use Rattle.utf16_tools.proofs.Utf8PiecesLemmas.{IsTextOf-nil, pieces-all, pieces-empty, pieces-more, pieces-nothing, whole-none, whole-some}
use Rattle.utf16_tools.proofs.utf8_pieces.encode_pieces.Goals as goal

pub loop-piece-init : goal.loop-piece-init
loop-piece-init g c = IsTextOf-nil _ _ c.new-text.ensures.text c.new-decoder.ensures

pub loop-piece-preserved : goal.loop-piece-preserved
loop-piece-preserved g c =
    pieces-more vec_items c.args.pieces.now c.loop-piece.piece-index _ _ c.loop-piece.invariant c.piece-item.result c.loop-piece-test.true c.piece-item.is _ c.deref.ensures.value _ _
    c.in_ok-feed.ensures.text c.in_ok-feed.ensures.pending

pub returns-in_err-feed-clause-nothing : goal.returns-in_err-feed-clause-nothing
returns-in_err-feed-clause-nothing g c none =
    absurd (true≢false (sym (c.in_err-feed.ensures.nothing
    (pieces-nothing vec_items c.args.pieces.now c.loop-piece.piece-index _ _ c.loop-piece.invariant c.piece-item.result c.loop-piece-test.true c.piece-item.is _ c.deref.ensures.value none)).0))

pub returns-in_default-clause-text : goal.returns-in_default-clause-text
returns-in_default-clause-text g c =
    whole-none _ _ _ (pieces-all vec_items c.args.pieces.now _ _ _ c.loop-piece.invariant c.loop-piece-test.false) (c.finish.ensures.none.0 c.in_default.is)

pub returns-clause-text : goal.returns-clause-text
returns-clause-text g c =
    let end = finished c.finish.result c.in-Some.replacement (utf8_decoder_pending c.loop-piece.decoder) c.in-Some.is c.finish.ensures.none c.finish.ensures.replacement in
    whole-some _ _ _ (pieces-all vec_items c.args.pieces.now _ _ _ c.loop-piece.invariant c.loop-piece-test.false) _ end.0
    (c.in_ok-push.ensures.text ∙ ap (λ m. wstring_text c.loop-piece.text ++ m ∷ []) end.1)

pub returns-in_err-push-clause-nothing : goal.returns-in_err-push-clause-nothing
returns-in_err-push-clause-nothing g c none =
    let end = finished c.finish.result c.in-Some.replacement (utf8_decoder_pending c.loop-piece.decoder) c.in-Some.is c.finish.ensures.none c.finish.ensures.replacement in
    absurd (end.0 (pieces-empty vec_items c.args.pieces.now _ _ _ c.loop-piece.invariant none))
