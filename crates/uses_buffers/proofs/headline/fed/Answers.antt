use Rattle.std.proofs.Common.{◌≡◌, ◌++◌, encode_utf8_all, string_bytes, ap, ◌∙◌, rules}
use Rattle.std.specs.Char.{encode_utf8}
use Rattle.std.specs.Vec.{vec_items}
use Rattle.utf16_tools.specs.Lossy.{lossy_pending}
use Rattle.utf16_tools.specs.Split.{lossy_chars, split_items, split_tail}
use Rattle.utf16_tools.proofs.StreamLemmas.{finished}
use Rattle.uses_buffers.proofs.ReadLemmas.{Told-all, Told-more, some_kept}
use Rattle.uses_buffers.proofs.headline.fed.Goals as goal

pub loop-piece-init : goal.loop-piece-init
unfolding split_items split_tail
loop-piece-init g c = record { shown = c.new-text.ensures.bytes; tail = c.new-decoder.ensures }

pub loop-piece-preserved : goal.loop-piece-preserved
loop-piece-preserved g c =
    let big = g.E.Utf16Order.BIG in
    let pending = lossy_pending c.loop-piece.decoder in
    let grown : string_bytes c.push_str.new.self ≡ string_bytes c.loop-piece.text ++ string_bytes c.in_ok-answer.answer = search rules in
    Told-more vec_items c.args.pieces.now c.loop-piece.piece-index big _ pending c.loop-piece.invariant c.piece-item.result _ _ c.loop-piece-test.true c.piece-item.is
    (grown ∙ ap (λ t. string_bytes c.loop-piece.text ++ t)
    (c.in_ok-answer.ensures.text ∙ ap (λ p. encode_utf8_all (lossy_chars (split_items big (pending ++ p)))) c.deref.ensures.value))
    (c.in_ok-answer.ensures.pending ∙ ap (λ p. split_tail big (pending ++ p)) c.deref.ensures.value)

pub returns : goal.returns
returns g c =
    let end = finished c.finish.result c.in-Some.replacement (lossy_pending c.loop-piece.decoder) c.in-Some.is c.finish.ensures.none c.finish.ensures.replacement in
    some_kept _ _ _ _ (Told-all vec_items c.args.pieces.now c.loop-piece.piece-index _ _ _ c.loop-piece.invariant c.loop-piece-test.false)
    _ end.0 (c.in_ok-push.ensures.bytes ∙ ap (λ m. string_bytes c.loop-piece.text ++ encode_utf8 m) end.1)
