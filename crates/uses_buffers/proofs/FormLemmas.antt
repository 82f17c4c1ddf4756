-- Calls of a strict, a lossy and a partial conversion: how two of them join, and what they did in
-- all.
use Rattle.std.proofs.Common.{◌≡◌, ℕ, ◌+◌, ◌<◌, ◌≤◌, List, [], ◌∷◌, ◌++◌, Option, None, Some, length, map, take, drop, refl, sym, ap, ◌∙◌, subst, arith, append-nil, length-append, length-drop}
use Rattle.std.proofs.lemmas.List.{drop-drop}
use Rattle.std.specs.List.{flat_map}
use Rattle.utf16_transcode.specs.Decodes.{DecodesAs}
use Rattle.utf16_transcode.specs.StreamSplit.{StreamSplit, IsSplitInChunks, decided}
use Rattle.utf16_transcode.specs.Stops.{NextDoesNotFit, Stops, StopsPartial, StopsLossy}
use Rattle.utf16_transcode.specs.Transcoded.{SameText, Joins}
use Rattle.utf16_transcode.specs.declared.progress.Stop.{Stop}
use Rattle.utf16_transcode.specs.declared.progress.Stop.TheVariants.{Incomplete, Done, IllFormed, NoSpace}
use Rattle.utf16_transcode.proofs.DecodesSteps.{Decodes-end, Decodes-then}
use Rattle.utf16_transcode.proofs.WholeLemmas.{whole_tail}
use Rattle.uses_buffers.specs.Calls.{ConvertsUpTo, EndsAt}
use Rattle.uses_buffers.specs.FormCalls.{Completes, Joined}
use Rattle.uses_buffers.specs.Forms.{lossy, partial, strict}
use Rattle.uses_buffers.proofs.LoopLemmas.{both_done, both_given, both_shown, both_within}

-- ---- up to the first ill-formed sequence

module _ (Given : List ℕ → List ℕ → Type 0) (from into : ℕ → List ℕ) (IsIllFormedOf : List ℕ → ℕ → Option ℕ → Type 0) where
  -- what is ill-formed after a prefix of the rest is so after the same prefix of the whole input
  abbrev pub Later : Type 0
  Later = (input out : List ℕ) (at read : ℕ) (len : Option ℕ) → at ≤ length input → Given (take (at + read) input) out → IsIllFormedOf (drop at input) read len
      → IsIllFormedOf input (at + read) len

  pub strict_joined : Joins Given → Later → Joined (strict Given from into IsIllFormedOf)
  strict_joined joins later input out more at read left room stop first second = record {
    within = both_within input at read first.within second.within;
    writes = given;
    stops = why stop second.stops;
  } where
    given : Given (take (at + read) input) (out ++ more)
    given = both_given Given joins input out more at read first.writes second.writes

    why : (stop : Stop) → Stops from into IsIllFormedOf (drop at input) read room stop → Stops from into IsIllFormedOf input (at + read) room stop
    why Done here = both_done input at read first.within here
    why (IllFormed len) here = later input (out ++ more) at read (Some len) first.within given here
    why Incomplete here = later input (out ++ more) at read None first.within given here
    why NoSpace here = subst (λ rest. NextDoesNotFit from into rest room) (drop-drop read at input) here

-- where an ill-formed sequence is found again without the text before it
pub strict_joined_there : (from into : ℕ → List ℕ) (IsValid : List ℕ → Type 0) (other : List ℕ → List ℕ) (IsIllFormedAt : List ℕ → Option ℕ → Type 0) (IsIllFormedOf : List ℕ → ℕ → Option ℕ → Type 0)
    → Joins (SameText IsValid other)
    → ((input : List ℕ) (read : ℕ) (len : Option ℕ) → read < length input → IsValid (take read input) → IsIllFormedAt (drop read input) len → IsIllFormedOf input read len)
    → ((input : List ℕ) (n : ℕ) (len : Option ℕ) → IsIllFormedOf input n len → (n < length input) × IsIllFormedAt (drop n input) len)
    → Joined (strict (SameText IsValid other) from into IsIllFormedOf)
strict_joined_there from into IsValid other IsIllFormedAt IsIllFormedOf joins faults there =
    strict_joined (SameText IsValid other) from into IsIllFormedOf joins
    (λ input out at read len within given found.
    let here = there (drop at input) read len found in
    faults input (at + read) len (omega (arith, here.0, length-drop at input)) given.0 (subst (λ b. IsIllFormedAt b len) (drop-drop read at input) here.1))

pub strict_end : (from into : ℕ → List ℕ) (IsValid : List ℕ → Type 0) (other : List ℕ → List ℕ) (IsIllFormedOf : List ℕ → ℕ → Option ℕ → Type 0) (input out : List ℕ) (n : ℕ) (stop : Stop)
    → Completes (strict (SameText IsValid other) from into IsIllFormedOf) input out n stop → ConvertsUpTo IsValid other IsIllFormedOf input out n stop
strict_end from into IsValid other IsIllFormedOf input out n stop done = record {
  within = done.call.within;
  valid = done.call.writes.0;
  text = done.call.writes.1;
  ends = ends stop done.ends done.call.stops;
} where
  ends : (stop : Stop) → ¬ (stop ≡ NoSpace) → Stops from into IsIllFormedOf input n done.left stop → EndsAt IsIllFormedOf input n stop
  ends Done some here = here
  ends (IllFormed len) some here = here
  ends Incomplete some here = here
  ends NoSpace some here = absurd (some refl)

-- ---- the whole text

pub lossy_joined : (text : List ℕ → List ℕ) (into : ℕ → List ℕ) → Joined (lossy text into)
lossy_joined text into input out more at read left room stop first second = record {
  within = both_within input at read first.within second.within;
  writes = both_shown text into input out more at read first.writes second.writes;
  stops = subst (λ r. StopsLossy text into r room stop) (drop-drop read at input) second.stops;
}

-- nothing is left if a lossy call did not stop for lack of space
pub nothing_left : (text : List ℕ → List ℕ) (into : ℕ → List ℕ) (rest : List ℕ) (left : ℕ) (stop : Stop) → ¬ (stop ≡ NoSpace) → StopsLossy text into rest left stop → rest ≡ []
nothing_left text into rest left Done other here = here
nothing_left text into rest left (IllFormed len) other here = absurd here
nothing_left text into rest left Incomplete other here = absurd here
nothing_left text into rest left NoSpace other here = absurd (other refl)

pub lossy_end : (text : List ℕ → List ℕ) (into : ℕ → List ℕ) → text [] ≡ [] → (input out : List ℕ) (n : ℕ) (stop : Stop) → Completes (lossy text into) input out n stop
    → out ≡ flat_map into (text input)
lossy_end text into empty input out n stop done =
    sym
    (done.call.writes ∙ ap (λ r. out ++ flat_map into (text r)) (nothing_left text into (drop n input) done.left stop done.ends done.call.stops) ∙ ap (λ t. out ++ flat_map into t) empty
    ∙ append-nil out)

-- the whole of nothing is nothing
pub whole_nothing : (parts : StreamSplit) (into : ℕ → List ℕ) → IsSplitInChunks parts → parts.whole [] ≡ []
whole_nothing parts into split = whole_tail parts into split [] split.nothing ∙ split.no_end

-- ---- what is certain

module _ (parts : StreamSplit) (into : ℕ → List ℕ) where
  -- what is shown appended to what was shown before
  pub decodes_onto : (bytes rest old new : List ℕ) → DecodesAs parts into bytes rest [] new → DecodesAs parts into bytes rest old (old ++ new)
  decodes_onto bytes rest old new d = record { taken = d.taken; items = d.items; tail = d.tail; text = ap (λ t. old ++ t) d.text }

  pub partial_joined : Joined (partial parts into)
  partial_joined input out more at read left room stop first second =
      let same = drop-drop read at input in
      record {
        within = both_within input at read first.within second.within;
        writes =
            Decodes-then parts into input (drop at input) (drop (at + read) input) [] out (out ++ more) first.writes
            (subst (λ r. DecodesAs parts into (drop at input) r out (out ++ more)) same (decodes_onto (drop at input) (drop read (drop at input)) out more second.writes));
        stops = subst (λ r. StopsPartial parts into r room stop) same second.stops;
      }

  pub partial_nothing : (input out : List ℕ) → DecodesAs parts into input input [] out → out ≡ []
  partial_nothing input out d = by_taken d.taken d.items d.text where
    by_taken : (taken : List parts.Item) → parts.items input ≡ taken ++ parts.items input → out ≡ flat_map into (map parts.shown taken) → out ≡ []
    by_taken [] items text = text
    by_taken (item ∷ taken) items text = absurd (omega (arith, ap length items, length-append (item ∷ taken) (parts.items input)))

  pub partial_end : IsSplitInChunks parts → (input out : List ℕ) (n : ℕ) (stop : Stop) → Completes (partial parts into) input out n stop
      → (out ≡ flat_map into (decided parts input)) × (drop n input ≡ parts.tail input)
  partial_end split input out n stop done =
      let rest = drop n input in
      let tail = tail_left rest done.left stop done.ends done.call.stops in
      (Decodes-end parts into input rest [] out done.call.writes (split.undecided rest tail), sym tail ∙ sym done.call.writes.tail) where
        -- a call that stopped for a reason other than space left the tail
        tail_left : (rest : List ℕ) (left : ℕ) (stop : Stop) → ¬ (stop ≡ NoSpace) → StopsPartial parts into rest left stop → parts.tail rest ≡ rest
        tail_left rest left Done other here = ap parts.tail here ∙ split.nothing ∙ sym here
        tail_left rest left (IllFormed len) other here = absurd here
        tail_left rest left Incomplete other here = here.1
        tail_left rest left NoSpace other here = absurd (other refl)
