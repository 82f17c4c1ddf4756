use Rattle.std.proofs.Common.{◌≡◌, ◌++◌, encode_utf8_all, string_bytes, sym, ap, ap₂, ◌∙◌, append_assoc, rules}
use Rattle.utf16_tools.specs.Lossy.{lossy_pending}
use Rattle.utf16_tools.specs.Split.{lossy_chars, split_items, split_tail}
use Rattle.uses_buffers.proofs.ReadLemmas.{two_pieces}
use Rattle.uses_buffers.proofs.streams.feed_in_two.Goals as goal

pub returns-clause-text : goal.returns-clause-text
returns-clause-text g c =
    let big = g.E.Utf16Order.BIG in
    let both : string_bytes c.push_str.new.self ≡ string_bytes c.in_ok-text.text ++ string_bytes c.in_ok-more.more = search rules in
    both
    ∙ ap₂ (λ t m. t ++ m) c.in_ok-text.ensures.text
    (c.in_ok-more.ensures.text ∙ ap (λ p. encode_utf8_all (lossy_chars (split_items big (p ++ c.args.second.now)))) c.in_ok-text.ensures.pending)
    ∙ two_pieces c.cut_anywhere.ensures big (lossy_pending c.args.decoder.now) c.args.first.now c.args.second.now

pub returns-clause-pending : goal.returns-clause-pending
returns-clause-pending g c =
    let big = g.E.Utf16Order.BIG in
    let pending = lossy_pending c.args.decoder.now in
    c.in_ok-more.ensures.pending ∙ ap (λ p. split_tail big (p ++ c.args.second.now)) c.in_ok-text.ensures.pending
    ∙ sym (c.split_extends.ensures big (pending ++ c.args.first.now) c.args.second.now).1
    ∙ ap (split_tail big) (append_assoc pending c.args.first.now c.args.second.now)

pub returns-in_err-more-clause-err : goal.returns-in_err-more-clause-err
returns-in_err-more-clause-err g c = search rules
