use Rattle.std.proofs.Common.{◌≡◌, ◌≢◌, ℕ, Bool, List, [], ◌++◌, encode_utf8_all, sym, ap, ap₂, ◌∙◌}
use Rattle.std.specs.Char.{encode_utf8}
use Rattle.utf16_streams.specs.Lossy.{lossy_pending}
use Rattle.utf16_streams.specs.Split.{lossy_text, split_items, split_tail}
use Rattle.utf16_streams.proofs.DecodesLemmas.{shown}
use Rattle.utf16_streams.proofs.StreamLemmas.{finished, whole_lossy_chars-none, whole_lossy_chars-some}
use Rattle.uses_buffers.proofs.cuts.decode.Goals as goal

-- a decoder that was new before it was fed the bytes
module _ (big : Bool) (bytes new text pending : List ℕ) (is : new ≡ []) (fed : text ≡ shown (split_items big (new ++ bytes))) (tail : pending ≡ split_tail big (new ++ bytes)) where
  text_is : text ≡ shown (split_items big bytes)
  text_is = fed ∙ ap (λ p. shown (split_items big (p ++ bytes))) is

  tail_is : pending ≡ split_tail big bytes
  tail_is = tail ∙ ap (λ p. split_tail big (p ++ bytes)) is

  complete : pending ≡ [] → text ≡ encode_utf8_all (lossy_text big bytes)
  complete none = text_is ∙ sym (whole_lossy_chars-none (split_items big bytes) (split_tail big bytes) (sym tail_is ∙ none))

  replaced : (next : List ℕ) (m : ℕ) → (pending ≢ []) × (m ≡ 0xFFFD) → next ≡ text ++ encode_utf8 m → next ≡ encode_utf8_all (lossy_text big bytes)
  replaced next m end pushed =
      pushed ∙ ap₂ (λ t m. t ++ encode_utf8 m) text_is end.1
      ∙ sym (whole_lossy_chars-some (split_items big bytes) (split_tail big bytes) (λ none. end.0 (tail_is ∙ none)))

pub returns-in_default : goal.returns-in_default
returns-in_default g c =
    complete g.E.Utf16Order.BIG c.args.bytes.now (lossy_pending c.new-decoder.result) _ (lossy_pending c.feed.new.self) c.new-decoder.ensures c.in_ok-text.ensures.text c.in_ok-text.ensures.pending (c.finish.ensures.none.0 c.in_default.is)

pub returns : goal.returns
returns g c =
    let end = finished c.finish.result c.in-Some.replacement (lossy_pending c.feed.new.self) c.in-Some.is c.finish.ensures.none c.finish.ensures.replacement in
    replaced g.E.Utf16Order.BIG c.args.bytes.now (lossy_pending c.new-decoder.result) _ (lossy_pending c.feed.new.self) c.new-decoder.ensures c.in_ok-text.ensures.text c.in_ok-text.ensures.pending _ c.in-Some.replacement end c.in_ok-push.ensures.bytes
