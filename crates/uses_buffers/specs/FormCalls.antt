-- A conversion with a buffer, and calls of it, each with the rest that the call before left.
use Rattle.std.specs.Prelude.{◌≡◌, ◌≢◌, ℕ, ◌+◌, ◌≤◌, List, [], ◌∷◌, ◌++◌, length, drop, sum_by}
use Rattle.std.specs.List.{flat_map}

-- what the contract of a conversion promises of a call, and the reasons why a call stops
pub record Conversion (From To Reason : Type 0) : Type 1 where
  -- the reason that the next character does not fit
  pub no_space : Reason
  -- what is written for an input of which the first n are read
  pub Writes : List From → List To → ℕ → Type 0
  -- why a call stops after the first n, with this much of its buffer left
  pub Stops : List From → ℕ → ℕ → Reason → Type 0

module _ {From To Reason : Type 0} (conversion : Conversion From To Reason) where
  -- a call that is given the input keeps the contract: it read the first n, wrote `out`, had this
  -- much of its buffer left, and stopped for this reason
  pub record IsCall (input : List From) (out : List To) (n left : ℕ) (stop : Reason) : Type 0 where
    pub within : n ≤ length input
    pub writes : conversion.Writes input out n
    pub stops : conversion.Stops input n left stop

  -- such a call that did not stop for lack of space
  pub record Completes (input : List From) (out : List To) (n : ℕ) (stop : Reason) : Type 0 where
    pub left : ℕ
    pub call : IsCall input out n left stop
    pub ends : stop ≢ conversion.no_space

  -- a call that stopped for lack of space, and a call with the rest, do what one call does
  abbrev pub Joined : Type 0
  Joined = (input : List From) (out more : List To) (at read left room : ℕ) (stop : Reason) → IsCall input out at left conversion.no_space
      → IsCall (drop at input) more read room stop → IsCall input (out ++ more) (at + read) room stop

  -- what one call did
  pub record Call : Type 0 where
    pub out : List To
    pub read : ℕ
    pub left : ℕ
    pub stop : Reason

  -- a call that is given the input did this
  abbrev pub Did : List From → Call → Type 0
  Did input call = IsCall input call.out call.read call.left call.stop

  -- after each of the calls the next character did not fit; each is given what the call before
  -- left, and `rest` is what the last one left
  abbrev pub Continue : List From → List Call → List From → Type 0
  Continue input [] rest = rest ≡ input
  Continue input (call ∷ calls) rest = Did input call × (call.stop ≡ conversion.no_space) × Continue (drop call.read input) calls rest

  -- such calls, and one more
  pub record Follow (input : List From) (calls : List Call) (last : Call) : Type 0 where
    pub rest : List From
    pub before : Continue input calls rest
    pub did : Did rest last

  -- what such calls wrote, one after another, and how much they read
  abbrev pub all_out : List Call → Call → List To
  all_out calls last = flat_map (λ (call : Call). call.out) calls ++ last.out

  abbrev pub all_read : List Call → Call → ℕ
  all_read calls last = sum_by (λ (call : Call). call.read) calls + last.read

  -- such calls did together what one call does that is given the whole input: it writes the same,
  -- reads as much, and stops for the reason of the last one
  abbrev pub Composes : Type 0
  Composes = (input : List From) (calls : List Call) (last : Call) → Follow input calls last
      → IsCall input (all_out calls last) (all_read calls last) last.left last.stop
