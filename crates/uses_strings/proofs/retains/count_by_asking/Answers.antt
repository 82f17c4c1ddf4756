use Rattle.std.proofs.Common.{rules, ◌≡◌, ◌∙◌, ◌+◌, ◌<◌, ◌^◌, ℕ, List, [], ◌∷◌, Bool, ap, arith, length, refl, sym, true}
use Rattle.utf16_units.proofs.BoundaryLemmas.{length-le-size}
use Rattle.utf16_units.proofs.EncodingLemmas.{IsUtf16-from_is_utf16, length-text}
use Rattle.std.specs.Fn.{Mut}
use Rattle.utf16string.specs.Retain.{Answers, RetainsTo}
use Rattle.utf16string.specs.WString.{wstring_text}
use Rattle.utf16string.proofs.Predicates.{IsAskable-by, RetainsTo-told, told, told-last}
use Rattle.uses_strings.specs.contracts.retains.fn.count_by_asking.count as closure
use Rattle.uses_strings.proofs.retains.count_by_asking.Goals as goal

module _ {X : Type 0} where
  all : (s : ℕ × X) (text : List ℕ) → told (λ (s : ℕ × X) c. true) (λ (s : ℕ × X) c. (s.0 + 1, s.1)) s text ≡ text
  unfolding told
  all s [] = refl
  all s (c ∷ text) = ap (λ l. c ∷ l) (all (s.0 + 1, s.1) text)

  counted : (s : ℕ × X) (text : List ℕ) → told-last (λ (s : ℕ × X) c. true) (λ (s : ℕ × X) c. (s.0 + 1, s.1)) s text ≡ (s.0 + length text, s.1)
  unfolding told-last
  counted s [] = ap (λ n. (n, s.1)) (omega arith)
  counted s (c ∷ text) = counted (s.0 + 1, s.1) text ∙ ap (λ n. (n, s.1)) (omega arith)

pub retain_by-requires : goal.retain_by-requires
retain_by-requires g c =
    IsAskable-by _ (λ f text. (closure.captures f).calls + length text < 2 ^ 64) (λ f d text i. omega (arith, i)) (λ f d text answer u i k. let told : u.0.now ≡ f.0.now + 1 = search rules in omega (arith, i, told)) _ _
    (let s = c.args.string.now in omega (arith, length-le-size (wstring_text s), length-text _ _ (IsUtf16-from_is_utf16 _ _ s.well_formed), s.raw.ok))

-- the predicate always returns true, adds one to its number and keeps its name
module _ {F X : Type 0} (calls : Mut F (ℕ × Unit {0}) Bool) (number : F → ℕ) (name : F → X)
    (step : (f : F) (d : ℕ) (answer : Bool) (u : F) → Answers calls f d answer u → (answer ≡ true) × (number u ≡ number f + 1) × (name u ≡ name f))
    (f last : F) (text left : List ℕ) (r : RetainsTo calls f text left last) where
  seen : (left ≡ text) × ((number last ≡ number f + length text) × (name last ≡ name f))
  seen =
      let t = RetainsTo-told (λ (s : ℕ × X) d. true) (λ s d. (s.0 + 1, s.1)) calls (λ f. (number f, name f)) (λ f d answer u k. let one = step f d answer u k in (one.0, λ i. (one.1 i, one.2 i))) f text left last r in
      let end = t.1 ∙ counted (number f, name f) text in
      (t.0 ∙ all (number f, name f) text, (ap (λ s. s.0) end, ap (λ s. s.1) end))

pub returns-clause-text : goal.returns-clause-text
returns-clause-text g c =
    (seen _ (λ f. f.0.now) (λ f. f.0.ghost_name) (λ f d answer u k. (search rules, search rules, search rules)) _ _ _ _ c.retain_by.ensures.text).0

-- each call adds one, and the reference is the same
pub returns-clause-count : goal.returns-clause-count
returns-clause-count g c =
    let last = (seen _ (λ f. f.0.now) (λ f. f.0.ghost_name) (λ f d answer u k. (search rules, search rules, search rules)) _ _ _ _ c.retain_by.ensures.text).1 in
    let number = last.0 in
    let name = sym last.1 in
    search rules
