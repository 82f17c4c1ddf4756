use Rattle.std.proofs.Common.{◌++◌, sym, ap, ◌∙◌}
use Rattle.utf16string.specs.WString.{wstring_text}
use Rattle.uses_buffers.proofs.Utf8Joined.{Joined-all, Joined-before, Joined-more, Joined-none}
use Rattle.uses_buffers.proofs.utf8_parts.push_parts.Goals as goal

pub loop-end-init : goal.loop-end-init
loop-end-init g c = Joined-none c.args.utf8.now c.args.ends.now (wstring_text c.args.to.now) c.requires.cuts

pub slice_bounds-push_lossy-count : goal.slice_bounds-push_lossy-count
slice_bounds-push_lossy-count g c =
    Joined-before c.args.utf8.now c.args.ends.now (wstring_text c.args.to.now) c.loop-end.end-index c.loop-end.start (wstring_text c.loop-end.to) c.loop-end.invariant c.loop-end-test.true

pub loop-end-preserved : goal.loop-end-preserved
loop-end-preserved g c =
    Joined-more c.args.utf8.now c.args.ends.now (wstring_text c.args.to.now) c.loop-end.end-index c.loop-end.start (wstring_text c.loop-end.to) c.loop-end.invariant
    c.loop-end-test.true _ c.in_ok-push_lossy.ensures.text

pub returns : goal.returns
returns g c = record {
  text =
      Joined-all c.args.utf8.now c.args.ends.now (wstring_text c.args.to.now) c.loop-end.end-index c.loop-end.start (wstring_text c.loop-end.to) c.loop-end.invariant
      _ c.loop-end-test.false c.in_ok-push_lossy-2.ensures.text
      ∙ ap (λ t. wstring_text c.args.to.now ++ t) (sym (c.cuts_text.ensures c.args.utf8.now c.args.ends.now c.requires.cuts));
}
