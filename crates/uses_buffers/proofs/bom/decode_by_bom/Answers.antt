use Rattle.std.proofs.Common.{◌≡◌, ◌++◌, None, encode_utf8_all, sym, ap₂, ◌∙◌}
use Rattle.std.specs.Char.{encode_utf8}
use Rattle.utf16_tools.specs.AnyLossy.{any_pending}
use Rattle.utf16_tools.specs.Bom.{items_in, tail_in}
use Rattle.utf16_tools.specs.Split.{lossy_chars}
use Rattle.utf16_tools.proofs.StreamLemmas.{finished, whole_lossy_chars-some}
use Rattle.uses_buffers.proofs.bom.decode_by_bom.Goals as goal

pub returns : goal.returns
returns g c =
    let bytes = c.args.bytes.now in
    let kept = any_pending c.feed.new.self in
    let end = finished c.finish.result c.in-Some.replacement kept c.in-Some.is c.finish.ensures.none c.finish.ensures.replacement in
    let told = c.in_ok-text.ensures.text ∙ ap₂ (λ o p. encode_utf8_all (lossy_chars (items_in o (p ++ bytes)))) c.new-decoder.ensures.byte_order c.new-decoder.ensures.pending in
    let tail : kept ≡ tail_in None bytes = c.in_ok-text.ensures.pending ∙ ap₂ (λ o p. tail_in o (p ++ bytes)) c.new-decoder.ensures.byte_order c.new-decoder.ensures.pending in
    c.in_ok-push.ensures.bytes ∙ ap₂ (λ t m. t ++ encode_utf8 m) told end.1
    ∙ sym (whole_lossy_chars-some (items_in None bytes) (tail_in None bytes) (λ none. end.0 (tail ∙ none)))
