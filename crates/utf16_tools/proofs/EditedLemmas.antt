-- The computed form of a step and of a run agrees with the relations.
use Rattle.std.proofs.Common.{◌≡◌, ◌≢◌, ℕ, suc, ◌+◌, ◌-◌, ◌<◌, ◌≤◌, ◌⊎◌, ◌↔◌, Bool, true, false, List, [], ◌∷◌, ◌++◌, Option, Some, None, All, length, map, take, slice_get, refl, sym, ap, ap₂, ◌∙◌, append-nil, length-append, take_at, ⊎_elim, inl, inr, arith, le-leb, cond}
use Rattle.std.specs.Prelude.{◌||◌, nat_le, nat_lt}
use Rattle.std.specs.Bool.{Decides}
use Rattle.std.specs.List.{last_or}
use Rattle.std.proofs.lemmas.Bool.{cases_lt, leb-true}
use Rattle.std.proofs.lemmas.Bool.Decides.{Decides-and, Decides-like, Decides-ltb, Decides-or, not_from_Decides}
use Rattle.std.proofs.lemmas.List.Elements.{All-cons, All-head, All-nil, All-tail}
use Rattle.utf16_units.specs.declared.byte_order.Utf16Order.{Ghosts}
use Rattle.utf16_units.proofs.BoundaryComputed.{is_boundary-Decides}
use Rattle.utf16_units.proofs.BoundaryLemmas.{text_from-back}
use Rattle.utf16string.specs.declared.wstring.WString.{WString}
use Rattle.utf16string.specs.Boundary.{is_boundary, IsBoundary, text_from}
use Rattle.utf16string.specs.Edit.{char_at, push_text}
use Rattle.utf16string.specs.Encoding.{size}
use Rattle.utf16string.specs.WString.{wstring_text}
use Rattle.utf16_tools.specs.Edited.{all_answered, all_edited, answered, bad_offset, changed, char, done, edited, is_possible, no_memory, nothing, rest, said, taken, told}
use Rattle.utf16_tools.specs.Step.{MayAllocate, IsDone, IsPossible, Run, Step}
use Rattle.utf16_tools.specs.declared.edit.Edit.{Edit}
use Rattle.utf16_tools.specs.declared.edit.Edit.TheVariants.{Clear, Insert, InsertText, Overwrite, Pop, Push, PushText, Remove, Retain, SplitOff, Truncate}
use Rattle.utf16_tools.specs.declared.edit.Reply.{Reply}
use Rattle.utf16_tools.specs.declared.edit.Reply.TheVariants.{BadOffset, Char, Done, NoMemory, Nothing, Rest}

-- at a boundary before the end there is a character
some_char : (text front back : List ℕ) (i : ℕ) → front ++ back ≡ text → size front ≡ i → i < size text → text_from text i ≡ back → char_at text i ≢ None
some_char text front [] i split at before from none =
    let whole = ap size (sym (append-nil front) ∙ split) in
    absurd (omega arith)
some_char text front (c ∷ back) i split at before from none =
    let first : char_at text i ≡ Some c = ap (λ t. slice_get t 0) from in
    absurd cc

char_at-within : (text : List ℕ) (i : ℕ) → IsBoundary text i → i < size text → char_at text i ≢ None
char_at-within text i b before = some_char text b.front b.back i b.split b.offset before (text_from-back text i b)

-- the last character of a text, and those before it
last-pushed : (o : Option ℕ) (text : List ℕ) (c : ℕ) → last_or o (text ++ c ∷ []) ≡ Some c
last-pushed o [] c = refl
last-pushed o (x ∷ text) c = last-pushed (Some x) text c

take-pushed : (text : List ℕ) (c : ℕ) → take (length (text ++ c ∷ []) - 1) (text ++ c ∷ []) ≡ text
take-pushed text c =
    let long = length-append text (c ∷ []) in
    take_at text (c ∷ []) (length (text ++ c ∷ []) - 1) (omega arith)

parted : (x : ℕ) (text : List ℕ) → (c : ℕ) × (last_or (Some x) text ≡ Some c) × (x ∷ text ≡ take (length text) (x ∷ text) ++ c ∷ [])
parted x [] = (x, refl, refl)
parted x (y ∷ text) =
    let p = parted y text in
    (p.0, p.1, ap (λ t. x ∷ t) p.2)

possible_cut : (text : List ℕ) (n : ℕ) → (size text ≤ n) ⊎ IsBoundary text n → n < size text → IsBoundary text n
possible_cut text n (inl past) before = absurd (omega arith)
possible_cut text n (inr b) before = b

denied : {P : Type 0} (b : Bool) → Decides b P → ¬ P → b ≡ false
denied true d fails = absurd (fails (d.0 refl))
denied false d fails = refl

-- the result of an edit that looks for a character never says that allocation failed
taken-granted : (o : Option ℕ) → taken o ≢ no_memory
taken-granted None = λ e. absurd cc
taken-granted (Some c) = λ e. absurd cc

module _ {E Z : Type 0} {order : Ghosts E} where
  -- the computed test is true exactly if the edit is possible
  pub is_possible-IsPossible : (text : List ℕ) (edit : Edit E Z order) → (is_possible text edit ≡ true) ↔ IsPossible text edit
  is_possible-IsPossible text (Push c) = (λ e. tt, λ p. refl)
  is_possible-IsPossible text (PushText t) = (λ e. tt, λ p. refl)
  is_possible-IsPossible text Pop = (λ e. tt, λ p. refl)
  is_possible-IsPossible text (Insert i c) = is_boundary-Decides text i
  is_possible-IsPossible text (InsertText i t) = is_boundary-Decides text i
  is_possible-IsPossible text (Remove i) = Decides-and (is_boundary text i) (nat_lt i (size text)) (is_boundary-Decides text i) (Decides-ltb i (size text))
  is_possible-IsPossible text (Retain set) = (λ e. tt, λ p. refl)
  is_possible-IsPossible text (Truncate n) =
      Decides-like (nat_le (size text) n || is_boundary text n) (possible_cut text n)
      (λ cut. ⊎_elim (λ (before : n < size text). inr (cut before)) (λ (past : size text ≤ n). inl past) (cases_lt n (size text)))
      (Decides-or (nat_le (size text) n) (is_boundary text n) (leb-true (size text) n, le-leb (size text) n) (is_boundary-Decides text n))
  is_possible-IsPossible text (SplitOff i) = is_boundary-Decides text i
  is_possible-IsPossible text (Overwrite i t) =
      Decides-and (is_boundary text i) (is_boundary text (i + size (wstring_text t))) (is_boundary-Decides text i) (is_boundary-Decides text (i + size (wstring_text t)))
  is_possible-IsPossible text Clear = (λ e. tt, λ p. refl)

  -- ---- what a reply says determines the reply

  said-done : (reply : Reply E Z order) → said reply ≡ done → reply ≡ Done
  said-done Done e = refl
  said-done (Char c) e = absurd cc
  said-done Nothing e = absurd cc
  said-done (Rest string) e = absurd cc
  said-done BadOffset e = absurd cc
  said-done NoMemory e = absurd cc

  said-nothing : (reply : Reply E Z order) → said reply ≡ nothing → reply ≡ Nothing
  said-nothing Done e = absurd cc
  said-nothing (Char c) e = absurd cc
  said-nothing Nothing e = refl
  said-nothing (Rest string) e = absurd cc
  said-nothing BadOffset e = absurd cc
  said-nothing NoMemory e = absurd cc

  said-bad_offset : (reply : Reply E Z order) → said reply ≡ bad_offset → reply ≡ BadOffset
  said-bad_offset Done e = absurd cc
  said-bad_offset (Char c) e = absurd cc
  said-bad_offset Nothing e = absurd cc
  said-bad_offset (Rest string) e = absurd cc
  said-bad_offset BadOffset e = refl
  said-bad_offset NoMemory e = absurd cc

  said-char : (reply : Reply E Z order) (c : ℕ) → said reply ≡ char c → reply ≡ Char c
  said-char Done c e = absurd cc
  said-char (Char d) c e =
      let same : d ≡ c = cc in
      ap (λ c. Char c) same
  said-char Nothing c e = absurd cc
  said-char (Rest string) c e = absurd cc
  said-char BadOffset c e = absurd cc
  said-char NoMemory c e = absurd cc

  said-rest : (reply : Reply E Z order) (text : List ℕ) → said reply ≡ rest text → (string : WString E Z order) × (reply ≡ Rest string) × (wstring_text string ≡ text)
  said-rest Done text e = absurd cc
  said-rest (Char d) text e = absurd cc
  said-rest Nothing text e = absurd cc
  said-rest (Rest string) text e =
      let same : wstring_text string ≡ text = cc in
      (string, refl, same)
  said-rest BadOffset text e = absurd cc
  said-rest NoMemory text e = absurd cc

  said-taken : (reply : Reply E Z order) (o : Option ℕ) → o ≢ None → said reply ≡ taken o → (c : ℕ) × (o ≡ Some c) × (reply ≡ Char c)
  said-taken reply None some e = absurd (some refl)
  said-taken reply (Some c) some e = (c, refl, said-char reply c e)

  -- ---- an edit that was made

  told-done : (old : List ℕ) (edit : Edit E Z order) (reply : Reply E Z order) (new : List ℕ) → IsDone old edit reply new
      → (said reply ≡ told old edit) × (new ≡ changed old edit)
  told-done old (Push c) reply new d = (ap said d.0, d.1)
  told-done old (PushText t) reply new d = (ap said d.0, d.1)
  told-done old Pop reply new d = ⊎_elim
      (λ (p : (old ≡ []) × (reply ≡ Nothing) × (new ≡ [])).
      (ap said p.1 ∙ sym (ap (λ t. taken (last_or None t)) p.0), p.2 ∙ sym (ap (λ t. take (length t - 1) t) p.0)))
      (λ (p : (c : ℕ) × (old ≡ push_text new (c ∷ [])) × (reply ≡ Char c)).
      (ap said p.2 ∙ sym (ap (λ t. taken (last_or None t)) p.1 ∙ ap taken (last-pushed None new p.0)), sym (ap (λ t. take (length t - 1) t) p.1 ∙ take-pushed new p.0)))
      d
  told-done old (Insert i c) reply new d = (ap said d.0, d.1)
  told-done old (InsertText i t) reply new d = (ap said d.0, d.1)
  told-done old (Remove i) reply new d = (ap said d.2 ∙ sym (ap taken d.1), d.3)
  told-done old (Retain set) reply new d = (ap said d.0, d.1)
  told-done old (Truncate n) reply new d = (ap said d.0, d.1)
  told-done old (SplitOff i) reply new d = (ap said d.1 ∙ ap (λ t. rest t) d.2, d.3)
  told-done old (Overwrite i t) reply new d = (ap said d.0, d.1)
  told-done old Clear reply new d = (ap said d.0, d.1)

  -- ---- an edit that does not allocate

  told-granted : (text : List ℕ) (edit : Edit E Z order) → told text edit ≢ no_memory
  told-granted text Pop = taken-granted (last_or None text)
  told-granted text (Remove i) = taken-granted (char_at text i)
  told-granted text (SplitOff i) = λ e. absurd cc
  told-granted text edit = λ e. absurd cc

  Step-granted : (old : List ℕ) (edit : Edit E Z order) (reply : Reply E Z order) (new : List ℕ) → Step old edit reply new
      → ¬ (MayAllocate edit) → ¬ (reply ≡ NoMemory)
  Step-granted old edit reply new (inl p) free missing = told-granted old edit (sym (told-done old edit reply new p.1).0 ∙ ap said missing)
  Step-granted old edit reply new (inr (inl p)) free missing = free p.1
  Step-granted old edit reply new (inr (inr p)) free missing =
      let same : bad_offset ≡ no_memory = sym (ap said p.1) ∙ ap said missing in
      absurd cc

  -- no edit that does not allocate gets the reply that allocation failed
  pub Run-granted : (old : List ℕ) (edits : List (Edit E Z order)) (replies : List (Reply E Z order)) (new : List ℕ) → Run old edits replies new
      → All (λ edit. ¬ (MayAllocate edit)) edits → All (λ reply. ¬ (reply ≡ NoMemory)) replies
  Run-granted old [] [] new run free = All-nil (λ reply. ¬ (reply ≡ NoMemory))
  Run-granted old [] (reply ∷ replies) new run free = absurd run
  Run-granted old (edit ∷ edits) [] new run free = absurd run
  Run-granted old (edit ∷ edits) (reply ∷ replies) new run free =
      All-cons (λ reply. ¬ (reply ≡ NoMemory)) reply replies
      (Step-granted old edit reply run.0 run.1 (All-head (λ edit. ¬ (MayAllocate edit)) edit edits free))
      (Run-granted run.0 edits replies new run.2 (All-tail (λ edit. ¬ (MayAllocate edit)) edit edits free))

  popped : (old : List ℕ) (reply : Reply E Z order) (new : List ℕ) → said reply ≡ taken (last_or None old) → new ≡ take (length old - 1) old → IsDone old Pop reply new
  popped [] reply new s n = inl (refl, said-nothing reply s, n)
  popped (x ∷ old) reply new s n =
      let p = parted x old in
      let shorter : suc (length old) - 1 ≡ length old = omega arith in
      let front : new ≡ take (length old) (x ∷ old) = n ∙ ap (λ k. take k (x ∷ old)) shorter in
      inr (p.0, p.2 ∙ ap (λ t. t ++ p.0 ∷ []) (sym front), said-char reply p.0 (s ∙ ap taken p.1))

  done-told : (old : List ℕ) (edit : Edit E Z order) (reply : Reply E Z order) (new : List ℕ) → IsPossible old edit
      → said reply ≡ told old edit → new ≡ changed old edit → IsDone old edit reply new
  done-told old (Push c) reply new p s n = (said-done reply s, n)
  done-told old (PushText t) reply new p s n = (said-done reply s, n)
  done-told old Pop reply new p s n = popped old reply new s n
  done-told old (Insert i c) reply new p s n = (said-done reply s, n)
  done-told old (InsertText i t) reply new p s n = (said-done reply s, n)
  done-told old (Remove i) reply new p s n =
      let c = said-taken reply (char_at old i) (char_at-within old i p.0 p.1) s in
      (c.0, c.1, c.2, n)
  done-told old (Retain set) reply new p s n = (said-done reply s, n)
  done-told old (Truncate k) reply new p s n = (said-done reply s, n)
  done-told old (SplitOff i) reply new p s n =
      let r = said-rest reply (text_from old i) s in
      (r.0, r.1, r.2, n)
  done-told old (Overwrite i t) reply new p s n = (said-done reply s, n)
  done-told old Clear reply new p s n = (said-done reply s, n)

  -- ---- one edit

  -- a step whose allocation does not fail has the computed result and leaves the computed text
  pub Step-computed : (old : List ℕ) (edit : Edit E Z order) (reply : Reply E Z order) (new : List ℕ) → Step old edit reply new → said reply ≢ no_memory
      → (said reply ≡ answered old edit) × (new ≡ edited old edit)
  Step-computed old edit reply new (inl p) granted =
      let yes = (is_possible-IsPossible old edit).1 p.0 in
      let d = told-done old edit reply new p.1 in
      (d.0 ∙ sym (ap (λ b. cond b (told old edit) bad_offset) yes), d.1 ∙ sym (ap (λ b. cond b (changed old edit) old) yes))
  Step-computed old edit reply new (inr (inl p)) granted = absurd (granted (ap said p.2))
  Step-computed old edit reply new (inr (inr p)) granted =
      let not_so = denied (is_possible old edit) (is_possible-IsPossible old edit) p.0 in
      (ap said p.1 ∙ sym (ap (λ b. cond b (told old edit) bad_offset) not_so), p.2 ∙ sym (ap (λ b. cond b (changed old edit) old) not_so))

  by_test : (old : List ℕ) (edit : Edit E Z order) (reply : Reply E Z order) (new : List ℕ) (b : Bool) → is_possible old edit ≡ b
      → said reply ≡ cond b (told old edit) bad_offset → new ≡ cond b (changed old edit) old → Step old edit reply new
  by_test old edit reply new true e s n =
      let p = (is_possible-IsPossible old edit).0 e in
      inl (p, done-told old edit reply new p s n)
  by_test old edit reply new false e s n = inr (inr (not_from_Decides (is_possible old edit) (is_possible-IsPossible old edit) e, said-bad_offset reply s, n))

  -- a computed result and text are a step
  pub Step-from_computed : (old : List ℕ) (edit : Edit E Z order) (reply : Reply E Z order) (new : List ℕ)
      → said reply ≡ answered old edit → new ≡ edited old edit → Step old edit reply new
  Step-from_computed old edit reply new s n = by_test old edit reply new (is_possible old edit) refl s n

  -- ---- a list of edits

  -- a run in which no allocation of an edit fails has the computed results and leaves the computed
  -- text
  pub Run-computed : (old : List ℕ) (edits : List (Edit E Z order)) (replies : List (Reply E Z order)) (new : List ℕ) → Run old edits replies new
      → All (λ reply. said reply ≢ no_memory) replies → (map said replies ≡ all_answered old edits) × (new ≡ all_edited old edits)
  Run-computed old [] [] new run granted = (refl, run)
  Run-computed old [] (reply ∷ replies) new run granted = absurd run
  Run-computed old (edit ∷ edits) [] new run granted = absurd run
  Run-computed old (edit ∷ edits) (reply ∷ replies) new run granted =
      let now = Step-computed old edit reply run.0 run.1 (All-head (λ reply. said reply ≢ no_memory) reply replies granted) in
      let later = Run-computed run.0 edits replies new run.2 (All-tail (λ reply. said reply ≢ no_memory) reply replies granted) in
      (ap₂ (λ x xs. x ∷ xs) now.0 (later.0 ∙ ap (λ t. all_answered t edits) now.1), later.1 ∙ ap (λ t. all_edited t edits) now.1)

  -- computed results and text are a run
  pub Run-from_computed : (old : List ℕ) (edits : List (Edit E Z order)) (replies : List (Reply E Z order)) (new : List ℕ)
      → map said replies ≡ all_answered old edits → new ≡ all_edited old edits → Run old edits replies new
  Run-from_computed old [] [] new s n = n
  Run-from_computed old [] (reply ∷ replies) new s n = absurd cc
  Run-from_computed old (edit ∷ edits) [] new s n = absurd cc
  Run-from_computed old (edit ∷ edits) (reply ∷ replies) new s n =
      let head : said reply ≡ answered old edit = cc in
      let tail : map said replies ≡ all_answered (edited old edit) edits = cc in
      (edited old edit, Step-from_computed old edit reply (edited old edit) head refl, Run-from_computed (edited old edit) edits replies new tail n)
