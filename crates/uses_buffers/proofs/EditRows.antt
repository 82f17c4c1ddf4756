-- The results of lists of edits, computed: each row is checked only by evaluation.
use Rattle.std.proofs.Common.{◌≡◌, ℕ, List, [], ◌∷◌, ◌++◌, refl}
use Rattle.utf16_units.specs.declared.byte_order.Utf16Order.{Ghosts}
use Rattle.utf16string.specs.Boundary.{is_boundary, text_from, text_to}
use Rattle.utf16string.specs.Encoding.{size}
use Rattle.utf16_tools.specs.Edited.{all_answered, all_edited, bad_offset, char, done, nothing, rest}
use Rattle.utf16_tools.specs.declared.edit.Edit.{Edit}
use Rattle.utf16_tools.specs.declared.edit.Edit.TheVariants.{Clear, Insert, Pop, Push, Remove, SplitOff, Truncate}

-- a character of two bytes, one of four and one of two
abbrev mixed : List ℕ
mixed = 0x61 ∷ 0x10000 ∷ 0x62 ∷ []

module _ (E Z : Type 0) (order : Ghosts E) where
  abbrev typed : List (Edit E Z order)
  typed = Push 0x61 ∷ Push 0x10000 ∷ Insert 4 0x78 ∷ SplitOff 2 ∷ Pop ∷ Pop ∷ Push 0x62 ∷ Truncate 9 ∷ Truncate 1 ∷ []

  typed_answered : all_answered [] typed ≡ done ∷ done ∷ bad_offset ∷ rest (0x10000 ∷ []) ∷ char 0x61 ∷ nothing ∷ done ∷ done ∷ bad_offset ∷ []
  unfolding is_boundary size text_from text_to
  typed_answered = refl

  typed_edited : all_edited [] typed ≡ 0x62 ∷ []
  unfolding is_boundary size text_from text_to
  typed_edited = refl

  abbrev taken_out : List (Edit E Z order)
  taken_out = Remove 2 ∷ Remove 1 ∷ Truncate 1 ∷ []

  taken_out_edited : all_edited mixed taken_out ≡ 0x61 ∷ 0x62 ∷ []
  unfolding is_boundary size text_from text_to
  taken_out_edited = refl

  abbrev cleared : List (Edit E Z order)
  cleared = taken_out ++ Clear ∷ []

  cleared_answered : all_answered mixed cleared ≡ char 0x10000 ∷ bad_offset ∷ bad_offset ∷ done ∷ []
  unfolding is_boundary size text_from text_to
  cleared_answered = refl

  cleared_edited : all_edited mixed cleared ≡ []
  unfolding is_boundary size text_from text_to
  cleared_edited = refl
