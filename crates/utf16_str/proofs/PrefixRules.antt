-- Rules for callers of `common_prefix`: what a common prefix begins with, and a loop over texts.
use Rattle.std.proofs.Common.{◌≡◌, ◌↔◌, ℕ, ◌+◌, ◌<◌, ◌==◌, Bool, true, false, nat_eq, if◌then◌else◌, List, [], ◌∷◌, ◌++◌, fold, get_or, length, map, take, take_all, refl, sym, ap, ap₂, ◌∙◌, append_assoc, append-nil, length-append, subst, arith, eqb-true, eq-eqb}
use Rattle.std.proofs.lemmas.Grind.{fold-append}
use Rattle.std.proofs.lemmas.List.{map-append, nil_from_length, take_more}
use Rattle.std.proofs.lemmas.List.Elements.{All-cons, All-head, All-nil, All-tail}
use Rattle.utf16_units.specs.declared.byte_order.Utf16Order.{Ghosts}
use Rattle.utf16_str.specs.declared.wstr.WStr.{WStr}
use Rattle.utf16_str.specs.WStr.{wstr_text}
use Rattle.utf16_str.specs.Common.{Begins, IsCommonPrefix, IsLongestPrefix}

both_begin : (prefix part rest other_rest more other_more : List ℕ) → prefix ++ rest ≡ part ++ more → prefix ++ other_rest ≡ part ++ other_more
    → ((c : ℕ) (x y : List ℕ) → rest ≡ c ∷ x → ¬ (other_rest ≡ c ∷ y)) → Begins part prefix
both_begin prefix [] rest other_rest more other_more e f differ = (prefix, refl)
both_begin [] (c ∷ part) rest other_rest more other_more e f differ = absurd (differ c _ _ e f)
both_begin (d ∷ prefix) (c ∷ part) rest other_rest more other_more e f differ =
    let same : d ≡ c = cc in
    let front : prefix ++ rest ≡ part ++ more = cc in
    let other : prefix ++ other_rest ≡ part ++ other_more = cc in
    let behind = both_begin prefix part rest other_rest more other_more front other differ in
    (behind.0, ap₂ (λ x xs. x ∷ xs) same behind.1)

Begins-prefix : (part prefix text rest : List ℕ) → text ≡ prefix ++ rest → Begins part prefix → Begins part text
Begins-prefix part prefix text rest is begins = (begins.0 ++ rest, is ∙ ap (λ p. p ++ rest) begins.1 ∙ append_assoc part begins.0 rest)

-- the longest common prefix of two texts begins with what both begin with
pub Begins-common : (part text other prefix : List ℕ) → IsCommonPrefix text other prefix → (Begins part prefix ↔ (Begins part text × Begins part other))
Begins-common part text other prefix common = (
  λ begins. (Begins-prefix part prefix text common.rest common.begins begins, Begins-prefix part prefix other common.other_rest common.other_begins begins),
  λ both. both_begin prefix part common.rest common.other_rest both.0.0 both.1.0 (sym common.begins ∙ both.0.1) (sym common.other_begins ∙ both.1.1) common.differ,
)

-- that prefix, computed character by character
unfoldable pub common_prefix : List ℕ → List ℕ → List ℕ
common_prefix [] other = []
common_prefix (c ∷ text) [] = []
common_prefix (c ∷ text) (d ∷ other) = if c == d then c ∷ common_prefix text other else []

common_prefix-is : (text other : List ℕ) → IsCommonPrefix text other (common_prefix text other)
unfolding common_prefix
common_prefix-is [] other = record { rest = []; other_rest = other; begins = refl; other_begins = refl; differ = λ c more other_more is. absurd cc }
common_prefix-is (c ∷ text) [] = record { rest = c ∷ text; other_rest = []; begins = refl; other_begins = refl; differ = λ x more other_more is also. absurd cc }
common_prefix-is (c ∷ text) (d ∷ other) = by_test (common_prefix-is text other) (nat_eq c d) refl where
  by_test : IsCommonPrefix text other (common_prefix text other) → (same : Bool) → nat_eq c d ≡ same → IsCommonPrefix (c ∷ text) (d ∷ other) (if same then c ∷ common_prefix text other else [])
  by_test behind true e =
      let same : c ≡ d = eqb-true c d e in
      record { rest = behind.rest; other_rest = behind.other_rest; begins = ap (λ t. c ∷ t) behind.begins; other_begins = ap₂ (λ x t. x ∷ t) (sym same) behind.other_begins; differ = behind.differ }
  by_test behind false e = record {
    rest = c ∷ text;
    other_rest = d ∷ other;
    begins = refl;
    other_begins = refl;
    differ = λ x more other_more is also. let same : c ≡ d = cc in absurd (cc (e, eq-eqb c d same));
  }

-- and there is no other common prefix of this kind
common_prefix-only : (text other prefix : List ℕ) → IsCommonPrefix text other prefix → prefix ≡ common_prefix text other
common_prefix-only text other prefix is =
    let computed = common_prefix-is text other in
    let more = (Begins-common prefix text other (common_prefix text other) computed).1 ((is.rest, is.begins), (is.other_rest, is.other_begins)) in
    let less = (Begins-common (common_prefix text other) text other prefix is).1 ((computed.rest, computed.begins), (computed.other_rest, computed.other_begins)) in
    let none : more.0 ≡ [] = nil_from_length more.0 (omega (arith, ap length more.1, ap length less.1, length-append prefix more.0, length-append (common_prefix text other) less.0)) in
    sym (append-nil prefix) ∙ ap (λ r. prefix ++ r) (sym none) ∙ sym more.1

-- the longest common prefix of many texts is made of one text after another
pub IsLongestPrefix-fold : (first : List ℕ) (others : List (List ℕ)) → IsLongestPrefix first others (fold common_prefix first others)
IsLongestPrefix-fold first [] = record { begins = λ part. (λ begins. (begins, All-nil (Begins part)), λ both. both.0) }
IsLongestPrefix-fold first (other ∷ others) = record {
  begins = λ part.
      let step = Begins-common part first other (common_prefix first other) (common_prefix-is first other) in
      let behind = (IsLongestPrefix-fold (common_prefix first other) others).begins part in (
        λ begins. let both = behind.0 begins in ((step.0 both.0).0, All-cons (Begins part) other others (step.0 both.0).1 both.1),
        λ both. behind.1 (step.1 (both.0, All-head (Begins part) other others both.1), All-tail (Begins part) other others both.1),
      );
}

pub IsLongestPrefix-folded : (first : List ℕ) (others : List (List ℕ)) (prefix : List ℕ) → prefix ≡ fold common_prefix first others → IsLongestPrefix first others prefix
IsLongestPrefix-folded first others prefix is = subst (IsLongestPrefix first others) (sym is) (IsLongestPrefix-fold first others)

-- a loop over texts, of which `i` were read: the longest common prefix so far
module _ {E : Type 0} {order : Ghosts E} where
  abbrev pub PrefixSoFar : WStr E order → List (WStr E order) → ℕ → WStr E order → Type 0
  PrefixSoFar first others i prefix = wstr_text prefix ≡ fold common_prefix (wstr_text first) (map wstr_text (take i others))

  -- one more text
  pub PrefixSoFar-more : (first : WStr E order) (others : List (WStr E order)) (i : ℕ) (prefix other next : WStr E order) → PrefixSoFar first others i prefix
      → i < length others → other ≡ get_or others i other → IsCommonPrefix (wstr_text prefix) (wstr_text other) (wstr_text next) → PrefixSoFar first others (i + 1) next
  PrefixSoFar-more first others i prefix other next so_far within is common =
      let before = wstr_text first in
      let texts : map wstr_text (take (i + 1) others) ≡ map wstr_text (take i others) ++ wstr_text other ∷ [] =
      ap (map wstr_text) (take_more others i other within ∙ ap (λ t. take i others ++ t ∷ []) (sym is)) ∙ map-append wstr_text (take i others) (other ∷ []) in
      common_prefix-only (wstr_text prefix) (wstr_text other) (wstr_text next) common ∙ ap (λ t. common_prefix t (wstr_text other)) so_far
      ∙ sym (ap (fold common_prefix before) texts ∙ fold-append common_prefix before (map wstr_text (take i others)) (wstr_text other ∷ []))

-- the start and the end of such a loop
pub ruleset prefixes = (IsLongestPrefix-folded, take_all)
