use Rattle.std.proofs.Common.{◌++◌, encode_utf8_all, string_bytes, sym, ap, ◌∙◌}
use Rattle.uses_buffers.proofs.CutsJoined.{Joined-none, Joined-more, Joined-all}
use Rattle.uses_buffers.proofs.cuts.decode_parts.Goals as goal

pub loop-to-init : goal.loop-to-init
loop-to-init g c = Joined-none g.E.Utf16Order.BIG c.args.file.now c.args.starts.now _ c.new-text.ensures.bytes

pub slice_bounds-decode-count : goal.slice_bounds-decode-count
slice_bounds-decode-count g c = c.loop-to.invariant.before c.loop-to-test.true

pub loop-to-preserved : goal.loop-to-preserved
loop-to-preserved g c =
    Joined-more g.E.Utf16Order.BIG c.args.file.now c.args.starts.now c.loop-to.to-index c.loop-to.from (string_bytes c.loop-to.text) _ c.loop-to.invariant
    c.loop-to-test.true c.requires.ascend c.requires.cuts
    (c.in_ok-push_str.ensures.bytes ∙ ap (λ t. string_bytes c.loop-to.text ++ t) (c.deref.ensures ∙ c.in_ok-part.ensures))

pub returns : goal.returns
returns g c =
    Joined-all g.E.Utf16Order.BIG c.args.file.now c.args.starts.now c.loop-to.to-index c.loop-to.from (string_bytes c.loop-to.text) _ c.loop-to.invariant
    c.loop-to-test.false
    (c.in_ok-push_str-2.ensures.bytes ∙ ap (λ t. string_bytes c.loop-to.text ++ t) (c.deref-2.ensures ∙ c.in_ok-part-2.ensures))
    ∙ sym (ap encode_utf8_all (c.cuts_text.ensures g.E.Utf16Order.BIG c.args.file.now c.args.starts.now c.requires.ascend c.requires.cuts))
