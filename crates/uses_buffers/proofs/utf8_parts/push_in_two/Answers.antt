use Rattle.std.proofs.Common.{◌++◌, append_assoc, drop, sym, take, ap, ap₂, ◌∙◌}
use Rattle.utf8_bytes.specs.Split.{lossy_text}
use Rattle.utf16string.specs.WString.{wstring_text}
use Rattle.uses_buffers.proofs.utf8_parts.push_in_two.Goals as goal

pub returns : goal.returns
returns g c = record {
  text =
      let old = wstring_text c.args.to.now in
      let bytes = c.args.utf8.now in
      let cut = c.floor_char_boundary-cut.result in
      let parts = c.split_at.ensures in
      let second = lossy_text (drop cut bytes) in
      c.in_ok-push_lossy-2.ensures.text
      ∙ ap₂ (λ t part. t ++ lossy_text part) c.in_ok-push_lossy.ensures.text parts.back
      ∙ ap (λ part. (old ++ lossy_text part) ++ second) parts.front
      ∙ append_assoc old (lossy_text (take cut bytes)) second
      ∙ ap (λ t. old ++ t) (sym (c.cut_text.ensures bytes cut c.floor_char_boundary-cut.ensures.boundary));
}
