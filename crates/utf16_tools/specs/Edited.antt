-- The text and the reply of an edit, computed, for edits whose allocation does not fail.
use Rattle.std.specs.Prelude.{ℕ, ◌+◌, ◌-◌, ◌≤◌, ⊤, Bool, true, ◌&&◌, ◌||◌, List, [], ◌∷◌, Option, Some, None, filter, length, nat_le, nat_lt, take, if◌then◌else◌}
use Rattle.std.specs.List.{last_or}
use Rattle.std.specs.Vec.{vec_items}
use Rattle.utf16_units.specs.declared.byte_order.Utf16Order.{Ghosts}
use Rattle.utf16string.specs.Boundary.{is_boundary, text_to}
use Rattle.utf16string.specs.Edit.{char_at, insert_at, overwrite_at, push_text, remove_at, split_back, split_front}
use Rattle.utf16string.specs.Encoding.{char_size, size}
use Rattle.utf16string.specs.WString.{wstring_text}
use Rattle.utf16_tools.specs.Step.{is_in}
use Rattle.utf16_tools.specs.declared.edit.Edit.{Edit}
use Rattle.utf16_tools.specs.declared.edit.Edit.TheVariants.{Clear, Insert, InsertText, Overwrite, Pop, Push, PushText, Remove, Retain, SplitOff, Truncate}
use Rattle.utf16_tools.specs.declared.edit.Reply.{Reply}
use Rattle.utf16_tools.specs.declared.edit.Reply.TheVariants.{BadOffset, Char, Done, NoMemory, Nothing, Rest}

-- a reply whose string is given by its text
pub data Said : Type 0 where
  done : Said
  char : ℕ → Said
  nothing : Said
  rest : List ℕ → Said
  bad_offset : Said
  no_memory : Said

-- the result of an edit that removes a character: that character, or that there was none
abbrev pub taken : Option ℕ → Said
taken None = nothing
taken (Some c) = char c

module _ {E Z : Type 0} {order : Ghosts E} where
  -- what a reply says: its string is given by its text
  abbrev pub said : Reply E Z order → Said
  said Done = done
  said (Char c) = char c
  said Nothing = nothing
  said (Rest string) = rest (wstring_text string)
  said BadOffset = bad_offset
  said NoMemory = no_memory

  -- whether the edit is possible at its offset; an edit without an offset always is
  abbrev pub is_possible : List ℕ → Edit E Z order → Bool
  is_possible text (Insert i c) = is_boundary text i
  is_possible text (InsertText i t) = is_boundary text i
  is_possible text (Remove i) = is_boundary text i && nat_lt i (size text)
  is_possible text (Truncate n) = nat_le (size text) n || is_boundary text n
  is_possible text (SplitOff i) = is_boundary text i
  is_possible text (Overwrite i t) = is_boundary text i && is_boundary text (i + size (wstring_text t))
  is_possible text _ = true

  -- the text after the edit was made
  abbrev pub changed : List ℕ → Edit E Z order → List ℕ
  changed text (Push c) = push_text text (c ∷ [])
  changed text (PushText t) = push_text text (wstring_text t)
  changed text Pop = take (length text - 1) text
  changed text (Insert i c) = insert_at text i (c ∷ [])
  changed text (InsertText i t) = insert_at text i (wstring_text t)
  changed text (Remove i) = remove_at text i
  changed text (Retain set) = filter (is_in (vec_items set)) text
  changed text (Truncate n) = if nat_lt n (size text) then text_to text n else text
  changed text (SplitOff i) = split_front text i
  changed text (Overwrite i t) = overwrite_at text i (wstring_text t)
  changed text Clear = []

  -- the result of the edit if it was made
  abbrev pub told : List ℕ → Edit E Z order → Said
  told text Pop = taken (last_or None text)
  told text (Remove i) = taken (char_at text i)
  told text (SplitOff i) = rest (split_back text i)
  told text _ = done

  -- the text after an edit whose allocation does not fail: unchanged if the edit is not possible
  abbrev pub edited : List ℕ → Edit E Z order → List ℕ
  edited text edit = if is_possible text edit then changed text edit else text

  -- the result of an edit whose allocation does not fail: a bad offset if the edit is not possible
  abbrev pub answered : List ℕ → Edit E Z order → Said
  answered text edit = if is_possible text edit then told text edit else bad_offset

  -- the text after a list of edits, each applied to what the edit before left
  abbrev pub all_edited : List ℕ → List (Edit E Z order) → List ℕ
  all_edited text [] = text
  all_edited text (edit ∷ edits) = all_edited (edited text edit) edits

  -- the results of the edits of a list, in order
  abbrev pub all_answered : List ℕ → List (Edit E Z order) → List Said
  all_answered text [] = []
  all_answered text (edit ∷ edits) = answered text edit ∷ all_answered (edited text edit) edits

  -- the text after the edit fits in the capacity; splitting off a part never does, since the part
  -- is allocated separately
  abbrev pub Fits : ℕ → List ℕ → Edit E Z order → Type 0
  Fits room text (Push c) = size text + char_size c ≤ room
  Fits room text (PushText t) = size text + size (wstring_text t) ≤ room
  Fits room text Pop = ⊤
  Fits room text (Insert i c) = size text + char_size c ≤ room
  Fits room text (InsertText i t) = size text + size (wstring_text t) ≤ room
  Fits room text (Remove i) = ⊤
  Fits room text (Retain set) = ⊤
  Fits room text (Truncate n) = ⊤
  Fits room text (SplitOff i) = ⊥
  Fits room text (Overwrite i t) = ⊤
  Fits room text Clear = ⊤

  -- each edit of a list fits in the text that the edits before it leave
  abbrev pub EachFits : ℕ → List ℕ → List (Edit E Z order) → Type 0
  EachFits room text [] = ⊤
  EachFits room text (edit ∷ edits) = Fits room text edit × EachFits room (edited text edit) edits
