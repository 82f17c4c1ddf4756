use Rattle.std.proofs.Common.{◌∙◌, ap, arith, refl, sym, [], ◌∷◌, ◌++◌}
use Rattle.utf16_units.specs.Boundary.{text_from, text_to}
use Rattle.utf16_units.specs.Edit.{remove_at}
use Rattle.utf16_units.specs.Encoding.{encode}
use Rattle.utf16_units.proofs.BoundaryLemmas.{IsBoundary-within, char_size-pos, size-text_to}
use Rattle.utf16_units.proofs.EncodingLemmas.{IsUtf16-from_is_utf16, encode-text_of, length-text}
use Rattle.utf16string.specs.WString.{wstring_bytes, wstring_text}
use Rattle.uses_strings.proofs.laws.type_and_undo.Goals as goal

-- the offset of the inserted character is a boundary
pub remove-requires-clause-boundary : goal.remove-requires-clause-boundary
remove-requires-clause-boundary g c =
    let text = wstring_text c.args.text.now in
    rw c.in_ok-insert.ensures.text (record {
      front = text_to text c.args.at;
      back = (c.args.c ∷ []) ++ text_from text c.args.at;
      split = refl;
      offset = size-text_to text c.args.at c.requires;
    })

pub remove-requires-clause-within : goal.remove-requires-clause-within
remove-requires-clause-within g c =
    let big = g.E.Utf16Order.BIG in
    let before = c.args.text.now in
    let typed = c.insert.new.self in
    omega (
      arith,
      IsBoundary-within (wstring_text before) c.args.at c.requires,
      char_size-pos c.args.c,
      c.in_ok-insert.ensures.len,
      length-text big (wstring_bytes before) (IsUtf16-from_is_utf16 _ _ before.well_formed),
      length-text big (wstring_bytes typed) (IsUtf16-from_is_utf16 _ _ typed.well_formed),
    )

pub returns : goal.returns
returns g c =
    let big = g.E.Utf16Order.BIG in
    let before = c.args.text.now in
    let after = c.remove.new.self in
    let law = (c.insert_then_remove.ensures (wstring_text before) c.args.at c.args.c c.requires).1 in
    sym (encode-text_of big (wstring_bytes after) (IsUtf16-from_is_utf16 _ _ after.well_formed))
    ∙ ap (encode big) (c.remove.ensures.text ∙ ap (λ t. remove_at t c.args.at) c.in_ok-insert.ensures.text ∙ law)
    ∙ encode-text_of big (wstring_bytes before) (IsUtf16-from_is_utf16 _ _ before.well_formed)
