-- A search over the characters of a text, from either end.
use Rattle.std.proofs.Common.{◌≡◌, ℕ, Bool, true, false, List, [], ◌∷◌, ◌++◌, refl, sym, ap, ◌∙◌}
use Rattle.utf16_units.specs.Encoding.{size}
use Rattle.utf16_units.proofs.EncodingLemmas.{size-nil}
use Rattle.utf16_units.proofs.PrefixLemmas.{size-push}
use Rattle.utf16_str.specs.Offsets.{char_offsets}
use Rattle.utf16_str.proofs.OffsetLemmas.{char_offsets-cons, next}
use Rattle.utf16_str.specs.Predicates.{IsFirstAt, SaysOfEach}
use Rattle.utf16_str.proofs.PredicatePassed.{IsPassed, passed-all, passed-more, passed-none}

-- the items that are left are the characters after those that were passed
pub record IsSearched (says : ℕ → Bool → Type 0) (text : List ℕ) (items : List (ℕ × ℕ)) : Type 0 where
  pub rest : List ℕ
  pub so_far : IsPassed says false text rest
  pub left : items ≡ char_offsets (size so_far.front) rest

no_items : (offset : ℕ) (rest : List ℕ) → [] ≡ char_offsets offset rest → rest ≡ []
no_items offset [] is = refl
no_items offset (c ∷ rest) is = absurd (cc (is ∙ char_offsets-cons offset c rest))

module _ (says : ℕ → Bool → Type 0) (text : List ℕ) (items : List (ℕ × ℕ)) where
  pub searched-none : items ≡ char_offsets 0 text → IsSearched says text items
  searched-none is = record {
    rest = text;
    so_far = passed-none says false text text refl;
    left = is ∙ ap (λ n. char_offsets n text) (sym size-nil);
  }

  pub searched-all : IsSearched says text items → items ≡ [] → SaysOfEach says false text
  searched-all searched none =
      passed-all says false text searched.rest searched.so_far (no_items (size searched.so_far.front) searched.rest (sym none ∙ searched.left))

  module _ (at c : ℕ) (more : List (ℕ × ℕ)) (searched : IsSearched says text items) (is : items ≡ (at, c) ∷ more) where
    pub searched-found : says c true → IsFirstAt says text at
    searched-found hit =
        let one = next more at c searched.so_far.front searched.rest (sym is ∙ searched.left) in
        record {
          front = searched.so_far.front;
          found = c;
          back = one.0;
          split = searched.so_far.split ∙ ap (λ t. searched.so_far.front ++ t) one.1;
          offset = one.2;
          before = searched.so_far.passed;
          here = hit;
        }

    pub searched-more : says c false → IsSearched says text more
    searched-more miss =
        let one = next more at c searched.so_far.front searched.rest (sym is ∙ searched.left) in
        record {
          rest = one.0;
          so_far = passed-more says false text searched.rest c one.0 searched.so_far one.1 miss;
          left = one.3 ∙ ap (λ n. char_offsets n one.0) (sym (size-push searched.so_far.front c));
        }
