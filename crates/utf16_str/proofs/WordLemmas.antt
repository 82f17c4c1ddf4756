-- The words of a text between the characters that pass a test, one by one from either end, and a
-- predicate that gives the answers of the test.
use Rattle.std.proofs.Common.{◌≡◌, ◌≢◌, ◌+◌, ◌≤◌, ℕ, All, Bool, true, false, cond, List, [], ◌∷◌, ◌++◌, length, refl, sym, ap, ◌∙◌, arith, append-nil, nat_lt}
use Rattle.std.proofs.lemmas.Bool.{false≢true}
use Rattle.std.proofs.lemmas.List.Elements.{All-head, All-tail, All-weaker, filter-append}
use Rattle.std.proofs.lemmas.List.Splits.{length-slice_split, slice_split-cons_yes, slice_split_at, slice_split_none}
use Rattle.std.proofs.lemmas.List.Sums.{count_by-le-length, length-filter}
use Rattle.std.specs.List.{filter, slice_split}
use Rattle.utf16_str.specs.Predicates.{AnswersBy, IsCutWith, IsLastCutWith, IsTrimmedEndWith, IsTrimmedStartWith, SaysOfEach}
use Rattle.utf16_str.specs.Substrings.{words_by}
use Rattle.utf16_str.proofs.PredicateAround.{split-around}

abbrev pub not_empty : List ℕ → Bool
not_empty word = nat_lt 0 (length word)

pub kept : (word : List ℕ) (parts : List (List ℕ)) → word ≢ [] → filter not_empty (word ∷ parts) ≡ word ∷ filter not_empty parts
kept [] parts some = absurd (some refl)
kept (c ∷ word) parts some =
    let filled : nat_lt 0 (length (c ∷ word)) ≡ true = grind arith in
    ap (λ b. cond b ((c ∷ word) ∷ filter not_empty parts) (filter not_empty parts)) filled

pub few-words : (p : ℕ → Bool) (text : List ℕ) → length (words_by p text) ≤ length text + 1
few-words p text =
    let parts = slice_split p text in
    omega (arith, length-filter not_empty parts, count_by-le-length not_empty parts, length-slice_split p text, count_by-le-length p text)

module _ (p : ℕ → Bool) where
  abbrev words : List ℕ → List (List ℕ)
  words text = words_by p text

  words-spaces : (front rest : List ℕ) → All (λ c. p c ≡ true) front → words (front ++ rest) ≡ words rest
  words-spaces [] rest all = refl
  words-spaces (c ∷ front) rest all =
      ap (filter not_empty) (slice_split-cons_yes p c (front ++ rest) (All-head (λ d. p d ≡ true) c front all))
      ∙ words-spaces front rest (All-tail (λ d. p d ≡ true) c front all)

  words-around : (front : List ℕ) (c : ℕ) (back : List ℕ) → p c ≡ true → words (front ++ c ∷ back) ≡ words front ++ words back
  words-around front c back passes =
      ap (filter not_empty) (split-around p front c back passes) ∙ filter-append not_empty (slice_split p front) (slice_split p back)

  words-trailing : (text back : List ℕ) → All (λ c. p c ≡ true) back → words (text ++ back) ≡ words text
  words-trailing text [] all = ap words (append-nil text)
  words-trailing text (c ∷ back) all =
      words-around text c back (All-head (λ d. p d ≡ true) c back all)
      ∙ ap (λ ws. words text ++ ws) (ap words (sym (append-nil back)) ∙ words-spaces back [] (All-tail (λ d. p d ≡ true) c back all))
      ∙ append-nil (words text)

module _ (p : ℕ → Bool) (says : ℕ → Bool → Type 0) (answers : AnswersBy says p) where
  passed : (text : List ℕ) → SaysOfEach says true text → All (λ c. p c ≡ true) text
  passed text each = All-weaker (λ c. says c true) (λ c. p c ≡ true) (λ c is. sym (answers c true is)) text each

  missed : (text : List ℕ) → SaysOfEach says false text → All (λ c. p c ≡ false) text
  missed text each = All-weaker (λ c. says c false) (λ c. p c ≡ false) (λ c is. sym (answers c false is)) text each

  words-one : (word : List ℕ) → SaysOfEach says false word → word ≢ [] → words p word ≡ word ∷ []
  words-one word lacks some = ap (filter not_empty) (slice_split_none p word (missed word lacks)) ∙ kept word [] some

  module _ (text trimmed : List ℕ) (start : IsTrimmedStartWith says text trimmed) where
    from-start : words p text ≡ words p trimmed
    from-start = ap (words p) start.split ∙ words-spaces p start.front trimmed (passed start.front start.trimmed)

    pub first-none : trimmed ≡ [] → words p text ≡ []
    first-none none = from-start ∙ ap (words p) none

    pub first-only : SaysOfEach says false trimmed → trimmed ≢ [] → words p text ≡ trimmed ∷ []
    first-only lacks some = from-start ∙ words-one trimmed lacks some

    module _ (word after : List ℕ) (cut : IsCutWith says trimmed word after) where
      pub first-some : word ≢ []
      first-some none =
          false≢true (answers _ _ (start.stops cut.delimiter after (cut.split ∙ ap (λ w. w ++ cut.delimiter ∷ after) none)) ∙ sym (answers _ _ cut.here))

      pub first-cut : words p text ≡ word ∷ words p after
      first-cut =
          from-start ∙ ap (words p) cut.split
          ∙ ap (filter not_empty) (slice_split_at p word cut.delimiter after (missed word cut.before) (sym (answers _ _ cut.here)))
          ∙ kept word (slice_split p after) first-some

  module _ (text trimmed : List ℕ) (end : IsTrimmedEndWith says text trimmed) where
    from-end : words p text ≡ words p trimmed
    from-end = ap (words p) end.split ∙ words-trailing p trimmed end.back (passed end.back end.trimmed)

    pub last-none : trimmed ≡ [] → words p text ≡ []
    last-none none = from-end ∙ ap (words p) none

    pub last-only : SaysOfEach says false trimmed → trimmed ≢ [] → words p text ≡ trimmed ∷ []
    last-only lacks some = from-end ∙ words-one trimmed lacks some

    module _ (before word : List ℕ) (cut : IsLastCutWith says trimmed before word) where
      pub last-some : word ≢ []
      last-some none =
          false≢true (answers _ _ (end.stops before cut.delimiter (cut.split ∙ ap (λ w. before ++ cut.delimiter ∷ w) none)) ∙ sym (answers _ _ cut.here))

      pub last-cut : words p text ≡ words p before ++ word ∷ []
      last-cut =
          from-end ∙ ap (words p) cut.split ∙ words-around p before cut.delimiter word (sym (answers _ _ cut.here))
          ∙ ap (λ ws. words p before ++ ws) (words-one word cut.after last-some)
