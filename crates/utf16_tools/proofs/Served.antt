-- A run of edits that all fit, one edit at a time.
use Rattle.std.proofs.Common.{◌≡◌, ◌≢◌, ℕ, ◌≤◌, List, [], ◌∷◌, ◌++◌, All, append_assoc, length, refl, subst, sym, arith}
use Rattle.std.proofs.lemmas.List.Elements.{All-append, All-cons, All-nil}
use Rattle.utf16_units.specs.declared.byte_order.Utf16Order.{Ghosts}
use Rattle.utf16_units.proofs.EncodingLemmas.{IsUtf16-from_is_utf16, length-text}
use Rattle.utf16string.specs.declared.wstring.WString.{WString}
use Rattle.utf16string.specs.Encoding.{size}
use Rattle.utf16string.specs.WString.{wstring_bytes, wstring_capacity, wstring_text}
use Rattle.utf16_tools.specs.Edited.{EachFits, Fits, no_memory, said}
use Rattle.utf16_tools.specs.Step.{HasCapacityFor, Step}
use Rattle.utf16_tools.specs.declared.edit.Edit.{Edit}
use Rattle.utf16_tools.specs.declared.edit.Edit.TheVariants.{Clear, Insert, InsertText, Overwrite, Pop, Push, PushText, Remove, Retain, SplitOff, Truncate}
use Rattle.utf16_tools.specs.declared.edit.Reply.{Reply}
use Rattle.utf16_tools.specs.declared.edit.Reply.TheVariants.{BadOffset, Char, Done, NoMemory, Nothing, Rest}
use Rattle.utf16_tools.proofs.EditedLemmas.{Step-computed}

module _ {E Z : Type 0} {order : Ghosts E} where
  length-string : (s : WString E Z order) → length (wstring_bytes s) ≡ size (wstring_text s)
  length-string s = length-text order.BIG (wstring_bytes s) (IsUtf16-from_is_utf16 order.BIG (wstring_bytes s) s.well_formed)

  -- if an edit fits in a capacity, a string with at least that capacity has enough for it
  pub room_for : (room : ℕ) (s : WString E Z order) (edit : Edit E Z order) → room ≤ wstring_capacity s → Fits room (wstring_text s) edit → HasCapacityFor s edit
  room_for room s (Push c) grown fits = let len = length-string s in omega arith
  room_for room s (PushText t) grown fits = let len = length-string s in let more = length-string t in omega arith
  room_for room s Pop grown fits = tt
  room_for room s (Insert i c) grown fits = let len = length-string s in omega arith
  room_for room s (InsertText i t) grown fits = let len = length-string s in let more = length-string t in omega arith
  room_for room s (Remove i) grown fits = tt
  room_for room s (Retain set) grown fits = tt
  room_for room s (Truncate n) grown fits = tt
  room_for room s (SplitOff i) grown fits = absurd fits
  room_for room s (Overwrite i t) grown fits = tt
  room_for room s Clear grown fits = tt

  said-granted : (reply : Reply E Z order) → ¬ (reply ≡ NoMemory) → said reply ≢ no_memory
  said-granted Done granted = λ e. absurd cc
  said-granted (Char c) granted = λ e. absurd cc
  said-granted Nothing granted = λ e. absurd cc
  said-granted (Rest string) granted = λ e. absurd cc
  said-granted BadOffset granted = λ e. absurd cc
  said-granted NoMemory granted = λ e. granted refl

  abbrev IsGranted : Reply E Z order → Type 0
  IsGranted reply = ¬ (reply ≡ NoMemory)

  -- if these edits and any that follow them fit, those that follow fit in the text that these left,
  -- and no allocation of these failed
  abbrev pub AreServed : ℕ → List ℕ → List (Edit E Z order) → List (Reply E Z order) → List ℕ → Type 0
  AreServed room old edits replies new =
      (rest : List (Edit E Z order)) → EachFits room old (edits ++ rest) → EachFits room new rest × All (λ reply. ¬ (reply ≡ NoMemory)) replies

  pub served-more : (room : ℕ) (old mid new : List ℕ) (edits : List (Edit E Z order)) (replies : List (Reply E Z order)) (edit : Edit E Z order) (reply : Reply E Z order)
      → AreServed room old edits replies mid → (Fits room mid edit → ¬ (reply ≡ NoMemory)) → Step mid edit reply new → AreServed room old (edits ++ edit ∷ []) (replies ++ reply ∷ []) new
  served-more room old mid new edits replies edit reply before fits step rest all =
      let now : EachFits room mid (edit ∷ rest) × All IsGranted replies = before (edit ∷ rest) (subst (EachFits room old) (append_assoc edits (edit ∷ []) rest) all) in
      let granted = fits now.0.0 in
      let left = (Step-computed mid edit reply new step (said-granted reply granted)).1 in
      (subst (λ text. EachFits room text rest) (sym left) now.0.1, All-append IsGranted replies (reply ∷ []) now.1 (All-cons IsGranted reply [] granted (All-nil IsGranted)))
