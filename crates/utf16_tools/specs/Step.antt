-- What an edit does to a text, and what a list of edits does.
use Rattle.std.specs.Prelude.{◌≡◌, ℕ, ◌+◌, ◌<◌, ◌≤◌, Bool, List, [], ◌∷◌, ◌⊎◌, ⊤, Some, filter, length, nat_lt, if◌then◌else◌}
use Rattle.std.specs.Bool.{◌==◌}
use Rattle.std.specs.List.{list_any}
use Rattle.std.specs.Vec.{vec_items}
use Rattle.utf16_units.specs.declared.byte_order.Utf16Order.{Ghosts}
use Rattle.utf16string.specs.declared.wstring.WString.{WString}
use Rattle.utf16string.specs.Boundary.{IsBoundary, text_to}
use Rattle.utf16string.specs.Edit.{char_at, insert_at, overwrite_at, push_text, remove_at, split_back, split_front}
use Rattle.utf16string.specs.Encoding.{char_size, size}
use Rattle.utf16string.specs.WString.{wstring_bytes, wstring_capacity, wstring_text}
use Rattle.utf16_tools.specs.declared.edit.Edit.{Edit}
use Rattle.utf16_tools.specs.declared.edit.Edit.TheVariants.{Clear, Insert, InsertText, Overwrite, Pop, Push, PushText, Remove, Retain, SplitOff, Truncate}
use Rattle.utf16_tools.specs.declared.edit.Reply.{Reply}
use Rattle.utf16_tools.specs.declared.edit.Reply.TheVariants.{BadOffset, Char, Done, NoMemory, Nothing, Rest}

-- c is one of the characters of a set
abbrev pub is_in : List ℕ → ℕ → Bool
is_in set c = list_any (λ kept. kept == c) set

module _ {E Z : Type 0} {order : Ghosts E} where
  -- the edit is possible at its offset; an edit without an offset always is
  abbrev pub IsPossible : List ℕ → Edit E Z order → Type 0
  IsPossible text (Push c) = ⊤
  IsPossible text (PushText t) = ⊤
  IsPossible text Pop = ⊤
  IsPossible text (Insert i c) = IsBoundary text i
  IsPossible text (InsertText i t) = IsBoundary text i
  IsPossible text (Remove i) = IsBoundary text i × (i < size text)
  IsPossible text (Retain set) = ⊤
  IsPossible text (Truncate n) = n < size text → IsBoundary text n
  IsPossible text (SplitOff i) = IsBoundary text i
  IsPossible text (Overwrite i t) = IsBoundary text i × IsBoundary text (i + size (wstring_text t))
  IsPossible text Clear = ⊤

  -- the edit was made: its reply, and the text after it
  abbrev pub IsDone : List ℕ → Edit E Z order → Reply E Z order → List ℕ → Type 0
  IsDone old (Push c) reply new = (reply ≡ Done) × (new ≡ push_text old (c ∷ []))
  IsDone old (PushText t) reply new = (reply ≡ Done) × (new ≡ push_text old (wstring_text t))
  IsDone old Pop reply new = ((old ≡ []) × (reply ≡ Nothing) × (new ≡ [])) ⊎ ((c : ℕ) × (old ≡ push_text new (c ∷ [])) × (reply ≡ Char c))
  IsDone old (Insert i c) reply new = (reply ≡ Done) × (new ≡ insert_at old i (c ∷ []))
  IsDone old (InsertText i t) reply new = (reply ≡ Done) × (new ≡ insert_at old i (wstring_text t))
  IsDone old (Remove i) reply new = (c : ℕ) × (char_at old i ≡ Some c) × (reply ≡ Char c) × (new ≡ remove_at old i)
  IsDone old (Retain set) reply new = (reply ≡ Done) × (new ≡ filter (is_in (vec_items set)) old)
  IsDone old (Truncate n) reply new = (reply ≡ Done) × (new ≡ (if nat_lt n (size old) then text_to old n else old))
  IsDone old (SplitOff i) reply new = (rest : WString E Z order) × (reply ≡ Rest rest) × (wstring_text rest ≡ split_back old i) × (new ≡ split_front old i)
  IsDone old (Overwrite i t) reply new = (reply ≡ Done) × (new ≡ overwrite_at old i (wstring_text t))
  IsDone old Clear reply new = (reply ≡ Done) × (new ≡ [])

  -- the edit may allocate, so it can fail
  abbrev pub MayAllocate : Edit E Z order → Type 0
  MayAllocate (Push c) = ⊤
  MayAllocate (PushText t) = ⊤
  MayAllocate Pop = ⊥
  MayAllocate (Insert i c) = ⊤
  MayAllocate (InsertText i t) = ⊤
  MayAllocate (Remove i) = ⊥
  MayAllocate (Retain set) = ⊥
  MayAllocate (Truncate n) = ⊥
  MayAllocate (SplitOff i) = ⊤
  MayAllocate (Overwrite i t) = ⊥
  MayAllocate Clear = ⊥

  -- the string has the capacity that the edit needs; splitting off a part always needs an
  -- allocation
  abbrev pub HasCapacityFor : WString E Z order → Edit E Z order → Type 0
  HasCapacityFor string (Push c) = length (wstring_bytes string) + char_size c ≤ wstring_capacity string
  HasCapacityFor string (PushText t) = length (wstring_bytes string) + length (wstring_bytes t) ≤ wstring_capacity string
  HasCapacityFor string Pop = ⊤
  HasCapacityFor string (Insert i c) = length (wstring_bytes string) + char_size c ≤ wstring_capacity string
  HasCapacityFor string (InsertText i t) = length (wstring_bytes string) + length (wstring_bytes t) ≤ wstring_capacity string
  HasCapacityFor string (Remove i) = ⊤
  HasCapacityFor string (Retain set) = ⊤
  HasCapacityFor string (Truncate n) = ⊤
  HasCapacityFor string (SplitOff i) = ⊥
  HasCapacityFor string (Overwrite i t) = ⊤
  HasCapacityFor string Clear = ⊤

  -- one edit: it is made if it is possible, unless it may allocate and the allocation fails; if it
  -- is not made, the text is unchanged
  abbrev pub Step : List ℕ → Edit E Z order → Reply E Z order → List ℕ → Type 0
  Step old edit reply new =
      (IsPossible old edit × IsDone old edit reply new)
      ⊎ ((IsPossible old edit × MayAllocate edit × (reply ≡ NoMemory) × (new ≡ old)) ⊎ (¬ (IsPossible old edit) × (reply ≡ BadOffset) × (new ≡ old)))

  -- a list of edits, with one reply for each: each edit is a step from the text that the edit
  -- before left
  abbrev pub Run : List ℕ → List (Edit E Z order) → List (Reply E Z order) → List ℕ → Type 0
  Run old [] [] new = new ≡ old
  Run old (edit ∷ edits) (reply ∷ replies) new = (next : List ℕ) × Step old edit reply next × Run next edits replies new
  Run old [] (reply ∷ replies) new = ⊥
  Run old (edit ∷ edits) [] new = ⊥
