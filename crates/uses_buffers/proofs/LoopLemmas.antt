-- A loop that calls again with the rest: what the calls so far did is what one call does.
use Rattle.std.proofs.Common.{◌≡◌, ◌⊎◌, inl, inr, ℕ, ◌+◌, ◌-◌, ◌<◌, ◌≤◌, List, [], ◌∷◌, ◌++◌, length, take, drop, refl, sym, ap, ◌∙◌, subst, ⊎_elim, arith, append_assoc, length-append, length-drop, length-take-le, take-add}
use Rattle.std.proofs.lemmas.Bool.{cases_lt}
use Rattle.std.proofs.lemmas.List.{drop-drop, take_rest}
use Rattle.std.proofs.lemmas.List.Sums.{sum_by-cons}
use Rattle.std.specs.List.{flat_map}
use Rattle.utf16_transcode.specs.Transcoded.{Joins}
use Rattle.uses_buffers.specs.FormCalls.{Call, Composes, Continue, Conversion, Did, IsCall, Joined, all_out, all_read}

-- both calls read no more than there is
pub both_within : {From : Type 0} (input : List From) (at read : ℕ) → at ≤ length input → read ≤ length (drop at input) → at + read ≤ length input
both_within input at read within more = omega (arith, within, more, length-drop at input)

-- the second one reads all if it reads all of the rest
pub both_done : (input : List ℕ) (at read : ℕ) → at ≤ length input → read ≡ length (drop at input) → at + read ≡ length input
both_done input at read within all = omega (arith, within, all, length-drop at input)

-- what two calls wrote, joined
pub both_given : (SameText : List ℕ → List ℕ → Type 0) → Joins SameText → (input out more : List ℕ) (at read : ℕ) → SameText (take at input) out → SameText (take read (drop at input)) more
    → SameText (take (at + read) input) (out ++ more)
both_given SameText joins input out more at read first second =
    subst (λ b. SameText b (out ++ more)) (sym (take-add at read input)) (joins (take at input) (take read (drop at input)) out more first second)

-- the same where what is not read follows
pub both_shown : (text : List ℕ → List ℕ) (into : ℕ → List ℕ) (input out more : List ℕ) (at read : ℕ) → flat_map into (text input) ≡ out ++ flat_map into (text (drop at input))
    → flat_map into (text (drop at input)) ≡ more ++ flat_map into (text (drop read (drop at input)))
    → flat_map into (text input) ≡ (out ++ more) ++ flat_map into (text (drop (at + read) input))
both_shown text into input out more at read first second =
    first ∙ ap (λ t. out ++ t) second ∙ sym (append_assoc out more (flat_map into (text (drop read (drop at input)))))
    ∙ ap (λ r. (out ++ more) ++ flat_map into (text r)) (drop-drop read at input)

-- where nothing was read nothing was written
pub none_shown : (text : List ℕ → List ℕ) (into : ℕ → List ℕ) (input out : List ℕ) → flat_map into (text input) ≡ out ++ flat_map into (text input) → out ≡ []
none_shown text into input [] same = refl
none_shown text into input (b ∷ out) same =
    absurd (omega (arith, ap length same, length-append (b ∷ out) (flat_map into (text input))))

module _ {From To Reason : Type 0} (conversion : Conversion From To Reason) where
  -- the calls so far: none, or what they did together
  abbrev pub Before : List From → List To → ℕ → Type 0
  Before input all at = ((at ≡ 0) × (all ≡ [])) ⊎ ((left : ℕ) × IsCall conversion input all at left conversion.no_space)

  -- a call that stopped for lack of space is before the next one
  pub stopped : (input : List From) (out : List To) (n left : ℕ) (stop : Reason) → stop ≡ conversion.no_space → IsCall conversion input out n left stop → Before input out n
  stopped input out n left stop same call = inr (left, subst (λ s. IsCall conversion input out n left s) same call)

  -- one call more
  pub then_call : Joined conversion → (input : List From) (all out : List To) (at read left : ℕ) (stop : Reason) → Before input all at → IsCall conversion (drop at input) out read left stop
      → IsCall conversion input (all ++ out) (at + read) left stop
  then_call joined input all out at read left stop before call = ⊎_elim
      (λ (none : (at ≡ 0) × (all ≡ [])).
      let zero : at + read ≡ read = omega (arith, none.0) in
      subst (λ n. IsCall conversion input (all ++ out) n left stop) (sym zero)
      (subst (λ before. IsCall conversion input (before ++ out) read left stop) (sym none.1)
      (subst (λ n. IsCall conversion (drop n input) out read left stop) none.0 call)))
      (λ (some : (room : ℕ) × IsCall conversion input all at room conversion.no_space). joined input all out at read some.0 left stop some.1 call)
      before

  -- in a loop that gives each call the input from `at` on
  pub next : Joined conversion → (input : List From) (all to grown : List To) (at read written left : ℕ) (stop : Reason) → Before input all at
      → IsCall conversion (take (length input - at) (drop at input)) (take written to) read left stop → grown ≡ all ++ take written to
      → IsCall conversion input grown (at + read) left stop
  next joined input all to grown at read written left stop before call same =
      subst (λ out. IsCall conversion input out (at + read) left stop) (sym same)
      (then_call joined input all (take written to) at read left stop before (subst (λ rest. IsCall conversion rest (take written to) read left stop) (take_rest input at) call))

  -- with enough space something is read, so fewer are left
  pub fewer : (least : ℕ) → ((input : List From) (n left : ℕ) → conversion.Stops input n left conversion.no_space → left < least)
      → ((input : List From) (out : List To) → conversion.Writes input out 0 → out ≡ [])
      → (input : List From) (to : List To) (at read written : ℕ) (stop : Reason) → least ≤ length to → written ≤ length to → stop ≡ conversion.no_space
      → IsCall conversion (take (length input - at) (drop at input)) (take written to) read (length to - written) stop → length input - (at + read) < length input - at
  fewer least short nothing input to at read written stop room fits same call = ⊎_elim
      (λ (none : read < 1).
      let zero : read ≡ 0 = omega (arith, none) in
      let empty = nothing _ (take written to) (subst (λ n. conversion.Writes (take (length input - at) (drop at input)) (take written to) n) zero call.writes) in
      let few = short _ read (length to - written) (subst (λ s. conversion.Stops (take (length input - at) (drop at input)) read (length to - written) s) same call.stops) in
      absurd (omega (arith, few, room, fits, ap length empty, length-take-le written to fits)))
      (λ (some : 1 ≤ read).
      let size = ap length (take_rest input at) ∙ length-drop at input in
      omega (arith, some, size, call.within))
      (cases_lt read 1)

  -- calls one after another, after others
  after : Joined conversion → (input : List From) (last : Call conversion) (final : List From) → Did conversion final last → (all : List To) (at : ℕ) (calls : List (Call conversion)) (rest : List From)
      → Before input all at → rest ≡ drop at input → Continue conversion rest calls final
      → IsCall conversion input (all ++ all_out conversion calls last) (at + all_read conversion calls last) last.left last.stop
  after joined input last final did all at [] rest before is steps =
      let same : at + last.read ≡ at + (0 + last.read) = omega arith in
      subst (λ n. IsCall conversion input (all ++ last.out) n last.left last.stop) same
      (then_call joined input all last.out at last.read last.left last.stop before (subst (λ r. Did conversion r last) (steps ∙ is) did))
  after joined input last final did all at (call ∷ calls) rest before is steps =
      let now = then_call joined input all call.out at call.read call.left call.stop before (subst (λ r. Did conversion r call) is steps.0) in
      let more = after joined input last final did (all ++ call.out) (at + call.read) calls (drop call.read rest)
      (stopped input (all ++ call.out) (at + call.read) call.left call.stop steps.1 now) (ap (drop call.read) is ∙ drop-drop call.read at input) steps.2 in
      let first = sum_by-cons (λ (call : Call conversion). call.read) call calls in
      let sum : (at + call.read) + all_read conversion calls last ≡ at + all_read conversion (call ∷ calls) last = omega (arith, first) in
      let text : (all ++ call.out) ++ all_out conversion calls last ≡ all ++ all_out conversion (call ∷ calls) last =
      append_assoc all call.out (all_out conversion calls last)
      ∙ ap (λ t. all ++ t) (sym (append_assoc call.out (flat_map (λ (call : Call conversion). call.out) calls) last.out)) in
      subst (λ n. IsCall conversion input (all ++ all_out conversion (call ∷ calls) last) n last.left last.stop) sum
      (subst (λ t. IsCall conversion input t ((at + call.read) + all_read conversion calls last) last.left last.stop) text more)

  pub composes : Joined conversion → Composes conversion
  composes joined input calls last run =
      let same : 0 + all_read conversion calls last ≡ all_read conversion calls last = omega arith in
      subst (λ n. IsCall conversion input (all_out conversion calls last) n last.left last.stop) same
      (after joined input last run.rest run.did [] 0 calls input (inl (refl, refl)) refl run.before)
