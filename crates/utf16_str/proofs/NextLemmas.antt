-- The next item of an iterator over what is left of a text.
use Rattle.std.proofs.Common.{◌≡◌, ℕ, ◌<◌, Bool, false, not, List, [], ◌∷◌, ◌++◌, Option, None, Some, length, append-nil, option_map, refl, sym, ap, ◌∙◌}
use Rattle.std.proofs.lemmas.Bool.{false≢true}
use Rattle.std.specs.Iterator.{MakesProgress, YieldsFirstBy, YieldsLastBy, item_count}
use Rattle.std.specs.Option.{is_some}
use Rattle.utf16_units.specs.Encoding.{size}
use Rattle.utf16_units.proofs.EncodingLemmas.{size-nil}
use Rattle.utf16_str.specs.Matches.{closing, left_size, left_text, limited, with_terminators, without_empty_last}
use Rattle.utf16_str.specs.Substrings.{parts_left}
use Rattle.utf16_str.proofs.CountLemmas.{count-parts, count-toward}
use Rattle.utf16_str.proofs.MatchLemmas.{limited-one, with-kept, with-more, without-kept, without-more}
use Rattle.utf16_str.proofs.SplitLemmas.{progress-part, progress-part-back}

-- something is left
pub mapped-some : {A : Type 0} (v : A → List ℕ) (rest : Option A) (none : Bool) → is_some rest ≡ not none → none ≡ false → option_map v rest ≡ None → ⊥
mapped-some v None none test is nil = false≢true (test ∙ ap not is)
mapped-some v (Some x) none test is nil = absurd cc

pub left-some : (back : Bool) (part : List ℕ) (begun : Bool) (rest : Option (List ℕ)) → (rest ≡ None → ⊥) → 0 < length (parts_left back part begun rest)
left-some back part begun None some = absurd (some refl)
left-some back part begun (Some text) some = (count-toward back part begun text).0

module _ (part : List ℕ) (begun : Bool) where
  pub closing-some : (rest : Option (List ℕ)) → (rest ≡ None → ⊥) → closing part rest ≡ part
  closing-some None some = absurd (some refl)
  closing-some (Some text) some = refl

  -- a substring that is last is not empty
  pub without-next : (text : List ℕ) (rest : Option (List ℕ)) → (rest ≡ None → ¬ (text ≡ [])) → without_empty_last (text ∷ parts_left false part begun rest) ≡ text ∷ without_empty_last (parts_left false part begun rest)
  without-next text None some = without-kept text (some refl)
  without-next text (Some more) some = without-more text (parts_left false part begun (Some more)) (count-parts part begun more).0

  pub with-next : (text closed : List ℕ) (rest : Option (List ℕ)) → closed ≡ text ++ closing part rest → (rest ≡ None → ¬ (closed ≡ []))
      → with_terminators part (text ∷ parts_left false part begun rest) ≡ closed ∷ with_terminators part (parts_left false part begun rest)
  with-next text closed None is some =
      let same : closed ≡ text = is ∙ append-nil text in
      with-kept part text (λ none. some refl (same ∙ none)) ∙ ap (λ t. t ∷ []) (sym same)
  with-next text closed (Some more) is some =
      with-more part text (parts_left false part begun (Some more)) (count-parts part begun more).0
      ∙ ap (λ t. t ∷ with_terminators part (parts_left false part begun (Some more))) (sym is)

pub size-left : (rest : Option (List ℕ)) → left_size rest ≡ size (left_text rest)
size-left None = sym size-nil
size-left (Some text) = refl

-- the last item of a limited iterator is all that is left
module _ {A : Type 0} (v : A → List ℕ) (join : List (List ℕ) → List ℕ) (whole : Option (List ℕ) → List (List ℕ)) (none : whole None ≡ [])
    (some : (text : List ℕ) → 0 < length (whole (Some text))) (joins : (text : List ℕ) → join (whole (Some text)) ≡ text) where
  pub limited-rest : (rest : Option A) (count less : ℕ) → count ≡ 1 → less ≡ 0
      → YieldsFirstBy v (λ (items : List (List ℕ)). items) (limited join count (whole (option_map v rest))) rest (limited join less (whole (option_map v rest)))
  limited-rest None count less one zero = (
    ap (λ n. limited join n (whole None)) one ∙ ap (limited join 1) none,
    ap (λ n. limited join n (whole None)) zero,
  )
  limited-rest (Some x) count less one zero =
      let parts = whole (Some (v x)) in
      ap (λ n. limited join n parts) one ∙ limited-one join parts (some (v x)) ∙ ap (λ t. t ∷ []) (joins (v x))
      ∙ ap (λ items. v x ∷ items) (sym (ap (λ n. limited join n parts) zero))

-- whatever an iterator yielded, it has fewer items left
pub progress-any : {A B : Type 0} (v : A → B) (can : List B → Type 0) → ((items : List B) → can items) → (before after : List B) (r : Option A)
    → YieldsFirstBy v (λ (items : List B). items) before r after → MakesProgress can (item_count (λ rest. rest)) before r after
progress-any v can always before after None h = record { on = λ _. tt; keeps = tt; rests = λ _. tt }
progress-any v can always before after (Some x) h = progress-part can always before after x (v x) h

pub progress-any-back : {A B : Type 0} (v : A → B) (can : List B → Type 0) → ((items : List B) → can items) → (before after : List B) (r : Option A)
    → YieldsLastBy v (λ (items : List B). items) before r after → MakesProgress can (item_count (λ rest. rest)) before r after
progress-any-back v can always before after None h = record { on = λ _. tt; keeps = tt; rests = λ _. tt }
progress-any-back v can always before after (Some x) h = progress-part-back can always before after x (v x) h
