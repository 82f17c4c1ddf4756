use Rattle.std.proofs.Common.{◌∙◌, ap, subst, sym}
use Rattle.utf16_str.specs.Window.{IsWindowOf, window_bytes, window_text}
use Rattle.utf16_str.specs.WStr.{wstr_bytes, wstr_text}
use Rattle.utf16_str.proofs.slicing.SliceIndex.get_unchecked.Goals as goal

pub part_unchecked-requires : goal.part_unchecked-requires
part_unchecked-requires g c =
    subst (IsWindowOf (wstr_text c.args.slice)) (sym (ap (g.Self.SliceIndex.window c.args.self) c.len.ensures.bytes) ∙ sym c.window.ensures ∙ c.unwrap-start.ensures) c.requires

pub returns-clause-text : goal.returns-clause-text
returns-clause-text g c =
    let there = sym c.unwrap-start.ensures ∙ c.window.ensures ∙ ap (g.Self.SliceIndex.window c.args.self) c.len.ensures.bytes in
    c.part_unchecked.ensures.text ∙ ap (window_text (wstr_text c.args.slice)) there

pub returns-clause-bytes : goal.returns-clause-bytes
returns-clause-bytes g c =
    let there = sym c.unwrap-start.ensures ∙ c.window.ensures ∙ ap (g.Self.SliceIndex.window c.args.self) c.len.ensures.bytes in
    c.part_unchecked.ensures.bytes ∙ ap (window_bytes (wstr_bytes c.args.slice)) there
