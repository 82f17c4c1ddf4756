-- What a predicate keeps if its results and states are known: for callers of `retain` and
-- `retain_by`.
use Rattle.std.proofs.Common.{◌≡◌, ℕ, Bool, true, false, List, [], ◌∷◌, length, inr, refl, sym, ap, ◌∙◌, arith}
use Rattle.std.specs.Fn.{Mut, Takes}
use Rattle.std.specs.List.{items_where_true}
use Rattle.std.specs.List.Retain.{ReturnsInTurn}
use Rattle.std.specs.Prelude.{if◌then◌else◌}
use Rattle.utf16string.specs.Retain.{Answers, IsAskable, MayBeAsked, Retains, RetainsTo}

-- for an invariant I: while it holds, the predicate may be called on the first character, and each
-- call preserves it for the rest
module _ {F : Type 0} (calls : Mut F (ℕ × Unit {0}) Bool) (I : F → List ℕ → Type 0)
    (asks : (f : F) (c : ℕ) (text : List ℕ) → I f (c ∷ text) → Takes calls f (c, tt))
    (keeps : (f : F) (c : ℕ) (text : List ℕ) (answer : Bool) (u : F) → I f (c ∷ text) → Answers calls f c answer u → I u text) where
  MayBeAsked-by : (f : F) (text : List ℕ) → I f text → MayBeAsked calls f text
  MayBeAsked-by f [] i = tt
  MayBeAsked-by f (c ∷ text) i = (asks f c text i, λ answer u k. MayBeAsked-by u text (keeps f c text answer u i k))

  pub IsAskable-by : (f : F) (text : List ℕ) → I f text → IsAskable calls f text
  IsAskable-by f text i = inr (MayBeAsked-by f text i)

-- `says` is the result of a call in a known state s, and `next` the state after it
module _ {S : Type 0} (says : S → ℕ → Bool) (next : S → ℕ → S) where
  -- the characters that are kept
  unfoldable pub told : S → List ℕ → List ℕ
  told s [] = []
  told s (c ∷ text) = if says s c then c ∷ told (next s c) text else told (next s c) text

  -- the state after the last call
  unfoldable pub told-last : S → List ℕ → S
  told-last s [] = s
  told-last s (c ∷ text) = told-last (next s c) text

  -- `view` is what is known of a state
  module _ {F : Type 0} (calls : Mut F (ℕ × Unit {0}) Bool) (view : F → S) (step : (f : F) (c : ℕ) (answer : Bool) (u : F) → Answers calls f c answer u → (answer ≡ says (view f) c) × (view u ≡ next (view f) c)) where
    one : (says' answer : Bool) (c : ℕ) (answers : List Bool) (text kept : List ℕ) → answer ≡ says' → items_where_true answers text ≡ kept
        → items_where_true (answer ∷ answers) (c ∷ text) ≡ (if says' then c ∷ kept else kept)
    one true true c answers text kept e rest = ap (λ l. c ∷ l) rest
    one false false c answers text kept e rest = rest
    one true false c answers text kept e rest = absurd cc
    one false true c answers text kept e rest = absurd cc

    in-turn : (f : F) (answers : List Bool) (text : List ℕ) (last : F) → length answers ≡ length text → ReturnsInTurn (Answers calls) f answers text last
        → (items_where_true answers text ≡ told (view f) text) × (view last ≡ told-last (view f) text)
    unfolding told told-last
    in-turn f [] [] last many asked = (refl, ap view (sym asked))
    in-turn f [] (c ∷ text) last many asked = absurd (omega (arith, many))
    in-turn f (b ∷ answers) [] last many asked = absurd (omega (arith, many))
    in-turn f (b ∷ answers) (c ∷ text) last many asked =
        let told-c = step f c b asked.0 asked.1 in
        let rest = in-turn asked.0 answers text last (omega (arith, many)) asked.2 in (
          one (says (view f) c) b c answers text _ told-c.0 (rest.0 ∙ ap (λ s. told s text) told-c.1),
          rest.1 ∙ ap (λ s. told-last s text) told-c.1,
        )

    pub RetainsTo-told : (f : F) (text left : List ℕ) (last : F) → RetainsTo calls f text left last → (left ≡ told (view f) text) × (view last ≡ told-last (view f) text)
    RetainsTo-told f text left last r =
        let all = in-turn f r.0 text last r.1 r.2 in
        (r.3 ∙ all.0, all.1)

    pub Retains-told : (f : F) (text left : List ℕ) → Retains calls f text left → left ≡ told (view f) text
    Retains-told f text left r = (RetainsTo-told f text left r.1 (r.0, r.2, r.3, r.4)).0
