-- A predicate that is called on the characters of a text in turn, one more and several more.
use Rattle.std.proofs.Common.{◌≡◌, ℕ, All, ◌+◌, ◌<◌, Bool, true, false, List, [], ◌∷◌, ◌++◌, get_or, length, take, inl, inr, refl, sym, ap, ap₂, ◌∙◌, subst, arith, length-append}
use Rattle.std.proofs.lemmas.List.{length-take-le, take_more}
use Rattle.std.proofs.lemmas.List.Elements.{All-cons, All-head, All-nil, All-tail}
use Rattle.std.specs.Fn.{Mut, always_mut}
use Rattle.std.specs.List.{items_where_true}
use Rattle.std.specs.List.Retain.{ReturnsInTurn}
use Rattle.std.specs.Prelude.{map}
use denote.Param.Always.{ready}
use Rattle.utf16string.specs.Retain.{Answers, IsAskable, MayBeAsked, RetainsTo}

-- what is kept of two lists is what is kept of each
pub kept-append : {X : Type 0} → (answers more : List Bool) (xs ys : List X) → length answers ≡ length xs
    → items_where_true (answers ++ more) (xs ++ ys) ≡ items_where_true answers xs ++ items_where_true more ys
kept-append [] more [] ys long = refl
kept-append [] more (x ∷ xs) ys long = absurd (omega (arith, long))
kept-append (b ∷ answers) more [] ys long = absurd (omega (arith, long))
kept-append (true ∷ answers) more (x ∷ xs) ys long = ap (λ l. x ∷ l) (kept-append answers more xs ys (omega (arith, long)))
kept-append (false ∷ answers) more (x ∷ xs) ys long = kept-append answers more xs ys (omega (arith, long))

-- what holds for each item holds for each item that is kept
pub All-kept : {X : Type 0} (P : X → Type 0) → (answers : List Bool) (xs : List X) → All P xs → All P (items_where_true answers xs)
All-kept P [] xs all = All-nil P
All-kept P (true ∷ answers) [] all = All-nil P
All-kept P (false ∷ answers) [] all = All-nil P
All-kept P (true ∷ answers) (x ∷ xs) all = All-cons P x _ (All-head P x xs all) (All-kept P answers xs (All-tail P x xs all))
All-kept P (false ∷ answers) (x ∷ xs) all = All-kept P answers xs (All-tail P x xs all)

module _ {F : Type 0} (calls : Mut F (ℕ × Unit {0}) Bool) where
  asked-ready : (f : F) (text : List ℕ) → ready calls f (map (λ c. (c, tt)) text) → MayBeAsked calls f text
  asked-ready f [] may = tt
  asked-ready f (c ∷ text) may = (may.0, λ answer next call. asked-ready next text (may.1 answer next call))

  -- a predicate that may be called on anything in any number of calls may be called on any text in
  -- turn
  pub MayBeAsked-always : (f : F) (text : List ℕ) → always_mut calls f → MayBeAsked calls f text
  MayBeAsked-always f text always = asked-ready f text (always.at (map (λ c. (c, tt)) text))

  pub MayBeAsked-askable : (f : F) (text : List ℕ) → IsAskable calls f text → MayBeAsked calls f text
  MayBeAsked-askable f text (inl always) = MayBeAsked-always f text always
  MayBeAsked-askable f text (inr may) = may

  -- a predicate that may be called on a text in turn may be called on a prefix of it
  pub MayBeAsked-front : (f : F) (front back : List ℕ) → MayBeAsked calls f (front ++ back) → MayBeAsked calls f front
  MayBeAsked-front f [] back may = tt
  MayBeAsked-front f (c ∷ front) back may = (may.0, λ answer next call. MayBeAsked-front next front back (may.1 answer next call))

  -- and, once it was, on the rest
  pub MayBeAsked-back : (f u : F) (answers : List Bool) (front back : List ℕ) → length answers ≡ length front → ReturnsInTurn (Answers calls) f answers front u
      → MayBeAsked calls f (front ++ back) → MayBeAsked calls u back
  MayBeAsked-back f u [] [] back long asked may = subst (λ g. MayBeAsked calls g back) asked may
  MayBeAsked-back f u [] (c ∷ front) back long asked may = absurd (omega (arith, long))
  MayBeAsked-back f u (b ∷ answers) [] back long asked may = absurd (omega (arith, long))
  MayBeAsked-back f u (b ∷ answers) (c ∷ front) back long asked may =
      MayBeAsked-back asked.0 u answers front back (omega (arith, long)) asked.2 (may.1 b asked.0 asked.1)

  -- results for one text and then for another are results for both
  pub asked-append : (p q u : F) (answers more : List Bool) (xs ys : List ℕ) → length answers ≡ length xs
      → ReturnsInTurn (Answers calls) p answers xs q → ReturnsInTurn (Answers calls) q more ys u
      → ReturnsInTurn (Answers calls) p (answers ++ more) (xs ++ ys) u
  asked-append p q u [] more [] ys long asked rest = subst (λ f. ReturnsInTurn (Answers calls) f more ys u) (sym asked) rest
  asked-append p q u [] more (x ∷ xs) ys long asked rest = absurd (omega (arith, long))
  asked-append p q u (b ∷ answers) more [] ys long asked rest = absurd (omega (arith, long))
  asked-append p q u (b ∷ answers) more (x ∷ xs) ys long asked rest =
      (asked.0, asked.1, asked-append asked.0 q u answers more xs ys (omega (arith, long)) asked.2 rest)

  pub RetainsTo-append : (p q u : F) (xs ys left more : List ℕ) → RetainsTo calls p xs left q → RetainsTo calls q ys more u
      → RetainsTo calls p (xs ++ ys) (left ++ more) u
  RetainsTo-append p q u xs ys left more first then = (
    first.0 ++ then.0,
    simp length-append (ap₂ (λ m n. m + n) first.1 then.1),
    asked-append p q u first.0 then.0 xs ys first.1 first.2 then.2,
    ap₂ (λ l m. l ++ m) first.3 then.3 ∙ sym (kept-append first.0 then.0 xs ys first.1),
  )

  -- the results so far and one more
  module _ (p q u : F) (answers : List Bool) (text : List ℕ) (i : ℕ) (answer : Bool) (long : i < length answers) (room : i < length text)
      (asked : ReturnsInTurn (Answers calls) p (take i answers) (take i text) q) (call : Answers calls q (get_or text i 0) answer u) where
    same : length (take i answers) ≡ length (take i text)
    same = length-take-le i answers (omega arith) ∙ sym (length-take-le i text (omega arith))

    pub asked-more : ReturnsInTurn (Answers calls) p (take i answers ++ answer ∷ []) (take (i + 1) text) u
    asked-more =
        subst (λ t. ReturnsInTurn (Answers calls) p (take i answers ++ answer ∷ []) t u) (sym (take_more text i 0 room))
        (asked-append p q u (take i answers) (answer ∷ []) (take i text) _ same asked (u, call, refl))
