use Rattle.std.proofs.Common.{◌<◌, ◌++◌, encode_utf8_all, length, ap, ◌∙◌, arith}
use Rattle.std.proofs.lemmas.List.Elements.{All-from_get_or}
use Rattle.utf16_tools.specs.Split.{lossy_chars, split_items, split_tail}
use Rattle.uses_buffers.proofs.ReadLemmas.{fresh}
use Rattle.uses_buffers.proofs.streams.decoded.Goals as goal

pub returns : goal.returns
returns g c items tail split =
    let big = g.E.Utf16Order.BIG in
    let bytes = c.args.bytes.now in
    let same = c.split_unique.ensures big bytes (split_items big bytes) items (split_tail big bytes) tail
    (c.split_exists.ensures big bytes (All-from_get_or (λ b. b < 256) bytes 0 (λ k l. omega (arith, c.type_inv.bytes k)))) split in
    let pending = c.pending.ensures.bytes ∙ c.in_ok-text.ensures.pending ∙ ap (λ p. split_tail big (p ++ bytes)) c.new-decoder.ensures ∙ same.1 in
    (fresh _ _ _ _ c.new-decoder.ensures c.in_ok-text.ensures.text ∙ ap (λ i. encode_utf8_all (lossy_chars i)) same.0, ap length pending)
