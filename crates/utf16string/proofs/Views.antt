-- What the type of a view implies about its text, for goals in which no call does.
use Rattle.std.proofs.Common.{List, [], ◌∷◌, All, map}
use Rattle.std.proofs.lemmas.List.Elements.{All-cons, All-nil}
use Rattle.std.specs.Char.{IsScalar}
use Rattle.utf16_units.specs.declared.byte_order.Utf16Order.{Ghosts}
use Rattle.utf16_units.specs.Encoding.{Encodes}
use Rattle.utf16_units.proofs.EncodingLemmas.{Encodes-text_of, IsUtf16-from_is_utf16}
use Rattle.utf16_str.specs.WStr.{wstr_bytes, wstr_text}
use Rattle.utf16_str.specs.declared.wstr.WStr.{WStr}

module _ {E : Type 0} {order : Ghosts E} where
  -- the bytes of a view encode its text
  pub view_encodes : (s : WStr E order) → Encodes order.BIG (wstr_text s) (wstr_bytes s)
  view_encodes s = Encodes-text_of order.BIG (wstr_bytes s) (IsUtf16-from_is_utf16 order.BIG (wstr_bytes s) s.well_formed)

  -- the texts of views are lists of scalar values
  pub scalar_texts : (views : List (WStr E order)) → All (All IsScalar) (map wstr_text views)
  scalar_texts [] = All-nil (All IsScalar)
  scalar_texts (s ∷ views) = All-cons (All IsScalar) (wstr_text s) (map wstr_text views) (view_encodes s).scalars (scalar_texts views)
