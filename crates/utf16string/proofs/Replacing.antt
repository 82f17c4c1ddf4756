-- A text whose matches are replaced, one after another.
use Rattle.std.proofs.Common.{◌≡◌, ◌≢◌, ◌+◌, ◌-◌, ◌<◌, ◌≤◌, ℕ, zero, suc, List, [], ◌∷◌, ◌++◌, None, Some, refl, sym, ap, ap₂, ◌∙◌, append-nil, append_assoc, arith, length, length-append}
use Rattle.utf16string.specs.Replace.{around_match, put_around, replaced_first}

length-zero : (part : List ℕ) → length part ≡ 0 → part ≡ []
length-zero [] none = refl
length-zero (c ∷ part) none = absurd (omega (arith, none))

-- the equations of `replaced_first`
of_none : (part to text : List ℕ) → replaced_first 0 part to text ≡ text
unfolding replaced_first
of_none part to text = refl

of_part : (count : ℕ) (part to text : List ℕ) → part ≢ []
    → replaced_first (suc count) part to text ≡ put_around to (replaced_first count part to) text (around_match part text)
unfolding replaced_first
of_part count [] to text some = absurd (some refl)
of_part count (p ∷ part) to text some = refl

of_char : (count : ℕ) (to : List ℕ) (c : ℕ) (text : List ℕ) → replaced_first (suc count) [] to (c ∷ text) ≡ to ++ (c ∷ replaced_first count [] to text)
unfolding replaced_first
of_char count to c text = refl

of_end : (count : ℕ) (to : List ℕ) → replaced_first (suc count) [] to [] ≡ to
unfolding replaced_first
of_end count to = refl

-- what was appended, and the rest with `left` matches to be replaced, are all that is appended
abbrev pub Ahead : List ℕ → List ℕ → List ℕ → ℕ → List ℕ → List ℕ → Type 0
Ahead part to all left done rest = done ++ replaced_first left part to rest ≡ all

-- before the first match
pub ahead-start : (part to old text now rest : List ℕ) (count : ℕ) → now ≡ old → rest ≡ text → Ahead part to (old ++ replaced_first count part to text) (count - 0) now rest
ahead-start part to old text now rest count same all =
    let left : count - 0 ≡ count = omega arith in
    ap₂ (λ n t. now ++ replaced_first n part to t) left all ∙ ap (λ t. t ++ replaced_first count part to text) same

-- if no match is to be replaced
pub ahead-end : (part to all : List ℕ) (left : ℕ) (done rest : List ℕ) → Ahead part to all left done rest → left ≡ 0 → done ++ rest ≡ all
ahead-end part to all left done rest ahead none =
    ap (λ t. done ++ t) (sym (ap (λ n. replaced_first n part to rest) none ∙ of_none part to rest)) ∙ ahead

one-more : (count turn : ℕ) → turn < count → count - turn ≡ suc (count - (turn + 1))
one-more count turn more = omega (arith, more)

-- if `turn` of `count` matches were replaced
module _ (part to all : List ℕ) (count turn : ℕ) (done rest : List ℕ) (ahead : Ahead part to all (count - turn) done rest) (more : turn < count) (some : part ≢ []) where
  abbrev later : List ℕ → List ℕ
  later = replaced_first (count - (turn + 1)) part to

  step : replaced_first (count - turn) part to rest ≡ put_around to later rest (around_match part rest)
  step = ap (λ n. replaced_first n part to rest) (one-more count turn more) ∙ of_part (count - (turn + 1)) part to rest some

  -- if there is no match
  pub ahead-none : around_match part rest ≡ None → done ++ rest ≡ all
  ahead-none none = ap (λ t. done ++ t) (sym (step ∙ ap (put_around to later rest) none)) ∙ ahead

  -- after the next match
  pub ahead-next : (before after : List ℕ) → around_match part rest ≡ Some (before, after) → Ahead part to all (count - (turn + 1)) ((done ++ before) ++ to) after
  ahead-next before after found =
      append_assoc (done ++ before) to (later after)
      ∙ append_assoc done before (to ++ later after)
      ∙ ap (λ t. done ++ t) (sym (step ∙ ap (put_around to later rest) found))
      ∙ ahead

-- the empty part before a character, and at the end
module _ (to all : List ℕ) (count turn : ℕ) (done rest : List ℕ) (ahead : Ahead [] to all (count - turn) done rest) (more : turn < count) where
  abbrev next : ℕ
  next = count - (turn + 1)

  pub between-next : (c : ℕ) (after : List ℕ) → rest ≡ c ∷ after → Ahead [] to all next ((done ++ to) ++ c ∷ []) after
  between-next c after first =
      append_assoc (done ++ to) (c ∷ []) (replaced_first next [] to after)
      ∙ append_assoc done to (c ∷ replaced_first next [] to after)
      ∙ ap (λ t. done ++ t) (sym (ap₂ (λ n t. replaced_first n [] to t) (one-more count turn more) first ∙ of_char next to c after))
      ∙ ahead

  pub between-last : rest ≡ [] → done ++ to ≡ all
  between-last none = ap (λ t. done ++ t) (sym (ap₂ (λ n t. replaced_first n [] to t) (one-more count turn more) none ∙ of_end next to)) ∙ ahead

-- ---- what a string has grown by
-- the text is as long as it was or longer, and if nothing is to be appended, the capacity is the same
abbrev pub Grown : List ℕ → List ℕ → List ℕ → ℕ → ℕ → Type 0
Grown old whole now room new_room = (length old ≤ length now) × (whole ≡ [] → new_room ≡ room)

module _ (old whole now : List ℕ) (grown : length old ≤ length now) (none : whole ≡ []) where
  -- what is appended is empty, if nothing is to be appended
  pub no-rest : (rest : List ℕ) → now ++ rest ≡ old ++ whole → rest ≡ []
  no-rest rest is = length-zero rest (omega (arith, grown, ap length is, length-append now rest, length-append old whole, ap length none))

  pub no-before : (before to more : List ℕ) → ((now ++ before) ++ to) ++ more ≡ old ++ whole → before ≡ []
  no-before before to more is =
      length-zero before (omega (arith, grown, ap length is, length-append ((now ++ before) ++ to) more, length-append (now ++ before) to, length-append now before, length-append old whole, ap length none))

  pub no-to : (before to more : List ℕ) → ((now ++ before) ++ to) ++ more ≡ old ++ whole → to ≡ []
  no-to before to more is =
      length-zero to (omega (arith, grown, ap length is, length-append ((now ++ before) ++ to) more, length-append (now ++ before) to, length-append now before, length-append old whole, ap length none))

-- and so is the last part, whose call says what follows
pub nothing-left : {IsFine : Type 0} (old whole now rest : List ℕ) (room mid last : ℕ) → Grown old whole now room mid → now ++ rest ≡ old ++ whole
    → (rest ≡ [] → IsFine × (last ≡ mid)) → whole ≡ [] → IsFine × (last ≡ room)
nothing-left old whole now rest room mid last grown is call none =
    let done = call (no-rest old whole now grown.0 none rest is) in (done.0, done.1 ∙ grown.1 none)

pub longer : (old now next part : List ℕ) → length old ≤ length now → next ≡ now ++ part → length old ≤ length next
longer old now next part grown is = omega (arith, grown, ap length is, length-append now part)

-- ---- between the characters of a text that becomes empty
pub between-long : (count : ℕ) (to text : List ℕ) → length text ≤ length (replaced_first count [] to text)
unfolding replaced_first
between-long zero to text = omega arith
between-long (suc count) to [] = omega arith
between-long (suc count) to (c ∷ text) = omega (arith, length-append to (c ∷ replaced_first count [] to text), between-long count to text)

pub no-text : (count : ℕ) (to text : List ℕ) → replaced_first count [] to text ≡ [] → text ≡ []
no-text count to text none = length-zero text (omega (arith, between-long count to text, ap length none))

module _ (old whole to : List ℕ) (count turn : ℕ) (done rest : List ℕ) (ahead : Ahead [] to (old ++ whole) (count - turn) done rest) (more : turn < count) (grown : length old ≤ length done) (none : whole ≡ []) where
  pub no-char : (c : ℕ) (after : List ℕ) → rest ≡ c ∷ after → ⊥
  no-char c after is =
      absurd (omega (
        arith,
        ap length (no-to old whole (done ++ to) (omega (arith, grown, length-append done to)) none [] (c ∷ []) (replaced_first (count - (turn + 1)) [] to after)
            (ap (λ t. (t ++ c ∷ []) ++ replaced_first (count - (turn + 1)) [] to after) (append-nil (done ++ to)) ∙ between-next to (old ++ whole) count turn done rest ahead more c after is)),
      ))

  no-between : (found : List ℕ) → rest ≡ found → to ≡ []
  no-between [] is = no-rest old whole done grown none to (between-last to (old ++ whole) count turn done rest ahead more is)
  no-between (c ∷ after) is = absurd (no-char c after is)

  pub none-between : to ≡ []
  none-between = no-between rest refl

-- a character and the text before it are appended
module _ (old whole to : List ℕ) (count turn : ℕ) (done rest : List ℕ) (ahead : Ahead [] to (old ++ whole) (count - turn) done rest) (more : turn < count) where
  pub between-step : (room mid last : ℕ) → Grown old whole done room mid → (c : ℕ) (after new : List ℕ) → rest ≡ c ∷ after → new ≡ (done ++ to) ++ c ∷ []
      → Ahead [] to (old ++ whole) (count - (turn + 1)) new after × Grown old whole new room last
  between-step room mid last grown c after new first is = (
    ap (λ t. t ++ replaced_first (count - (turn + 1)) [] to after) is ∙ between-next to (old ++ whole) count turn done rest ahead more c after first,
    (
      longer old done new (to ++ c ∷ []) grown.0 (is ∙ append_assoc done to (c ∷ [])),
      λ none. absurd (no-char old whole to count turn done rest ahead more grown.0 none c after first),
    ),
  )
