-- A predicate that is called on the characters of a text in turn: each call passes the state that
-- it leaves to the next.
use Rattle.std.specs.Prelude.{◌≡◌, ℕ, Bool, List, [], ◌∷◌, ⊤, ◌⊎◌, length}
use Rattle.std.specs.Fn.{Called, Mut, Takes, always_mut}
use Rattle.std.specs.List.{items_where_true}
use Rattle.std.specs.List.Retain.{IsFiltered, ReturnsInTurn}

module _ {F : Type 0} (calls : Mut F (ℕ × Unit {0}) Bool) where
  -- a call on c in the state `before` may return `answer` and leave the state `after`
  abbrev pub Answers : F → ℕ → Bool → F → Type 0
  Answers before c answer after = Called calls before (c, tt) answer after

  -- the predicate may be called on the first character, and on the rest in each state that this
  -- call may leave
  abbrev pub MayBeAsked : F → List ℕ → Type 0
  MayBeAsked f [] = ⊤
  MayBeAsked f (c ∷ text) = Takes calls f (c, tt) × ((answer : Bool) (next : F) → Answers f c answer next → MayBeAsked next text)

  -- the predicate may be called on the text, or it may be called on anything in any number of
  -- calls, which is stronger (the lemma `MayBeAsked-always`)
  abbrev pub IsAskable : F → List ℕ → Type 0
  IsAskable f text = always_mut calls f ⊎ MayBeAsked f text

  -- for some list of results, one for each character of the text: one chain of calls has these
  -- results, starts at f, passes each call's state to the next and ends at `last`, and `left` is
  -- the characters whose result is true, in order
  abbrev pub RetainsTo : F → List ℕ → List ℕ → F → Type 0
  RetainsTo f text left last =
      (answers : List Bool) × (length answers ≡ length text) × ReturnsInTurn Answers f answers text last × (left ≡ items_where_true answers text)

  -- `RetainsTo` for some last state
  abbrev pub Retains : F → List ℕ → List ℕ → Type 0
  Retains f text left = IsFiltered Answers f text left
