use Rattle.std.proofs.Common.{◌∙◌, ap, arith, rules}
use Rattle.utf16_units.specs.Encoding.{size}
use Rattle.utf16_units.specs.Laws.{OccursAt}
use Rattle.utf16_units.proofs.BoundaryLemmas.{size-text_to}
use Rattle.utf16_units.proofs.EncodingLemmas.{IsUtf16-from_is_utf16, length-text}
use Rattle.utf16string.specs.WStr.{wstr_bytes, wstr_text}
use Rattle.uses_strings.proofs.KeyCut.{key_cuts, key_ends, key_starts}
use Rattle.uses_strings.proofs.laws.cut_at_key.Given.{Over}
use Rattle.uses_strings.proofs.laws.cut_at_key.Goals as goal
use Rattle.uses_strings.proofs.laws.cut_at_key.Goals.{After-found_aligned}

stands : (g : Over) (c : After-found_aligned g) → OccursAt (wstr_bytes c.args.text) c.args.at (wstr_bytes c.args.key)
stands g c = search rules

pub split_at-requires-2 : goal.split_at-requires-2
split_at-requires-2 g c =
    rw c.split_at.ensures.back
    (key_ends c.found_aligned.ensures g.E.Utf16Order.BIG (wstr_bytes c.args.text) (wstr_bytes c.args.key) c.args.at
    (IsUtf16-from_is_utf16 _ _ c.args.text.well_formed) (IsUtf16-from_is_utf16 _ _ c.args.key.well_formed)
    (search rules) (omega arith) (stands g (goal.at.split_at-requires-2 g c).After-found_aligned) c.len.result c.len.ensures.size)

pub returns-clause-found : goal.returns-clause-found
returns-clause-found g c =
    rw (c.split_at.ensures.front, c.split_at-2.ensures.back, c.split_at.ensures.back)
    (key_cuts c.found_aligned.ensures g.E.Utf16Order.BIG (wstr_bytes c.args.text) (wstr_bytes c.args.key) c.args.at
    (IsUtf16-from_is_utf16 _ _ c.args.text.well_formed) (IsUtf16-from_is_utf16 _ _ c.args.key.well_formed)
    (search rules) (omega arith) (stands g (goal.at.returns-clause-found g c).After-found_aligned) c.len.result c.len.ensures.size)

pub returns-clause-offset : goal.returns-clause-offset
returns-clause-offset g c =
    let big = g.E.Utf16Order.BIG in
    let start = key_starts c.found_aligned.ensures big (wstr_bytes c.args.text) (wstr_bytes c.args.key) c.args.at
    (IsUtf16-from_is_utf16 _ _ c.args.text.well_formed) (IsUtf16-from_is_utf16 _ _ c.args.key.well_formed)
    (search rules) (omega arith) (stands g (goal.at.returns-clause-offset g c).After-found_aligned) in
    length-text big (wstr_bytes c.split_at.result.0) (IsUtf16-from_is_utf16 _ _ c.split_at.result.0.well_formed)
    ∙ ap size c.split_at.ensures.front ∙ size-text_to (wstr_text c.args.text) c.args.at start
