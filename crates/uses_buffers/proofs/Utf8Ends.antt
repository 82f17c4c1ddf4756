-- The offsets at which the parts of bytes end, found one after another.
use Rattle.std.proofs.Common.{◌≡◌, ⊎_elim, ℕ, ◌+◌, ◌-◌, ◌*◌, ◌/◌, ◌<◌, ◌≤◌, List, [], ◌∷◌, ◌++◌, length, slice_index_or, inl, refl, sym, ap, ◌∙◌, subst, arith}
use Rattle.std.proofs.Math.ListN.{get_or-append}
use Rattle.std.proofs.Math.Nat.{add-mul, div-eq_of_lt-le}
use Rattle.std.proofs.Math.Seq.{get_or-append_seam}
use Rattle.std.proofs.lemmas.Bool.{cases_lt}
use Rattle.std.proofs.lemmas.List.{length_push}
use Rattle.utf8_bytes.specs.Boundary.{AreCuts}
use Rattle.uses_buffers.specs.Utf8Parts.{IsLastCut}
use Rattle.uses_buffers.proofs.Utf8Cuts.{ascending}

-- the next multiple
multiple : (n size : ℕ) → (n + 1) * size ≡ n * size + size
multiple n size = let sum = add-mul n 1 size in omega (arith, sum)

-- the ends of the parts before the next multiple
pub record Ends (bytes : List ℕ) (size at : ℕ) (ends : List ℕ) : Type 0 where
  pub next : at ≡ length ends * size + size
  pub few : length ends * size ≤ length bytes - 1
  pub each : (k d : ℕ) → k < length ends → IsLastCut bytes ((k + 1) * size) (slice_index_or ends k d)

pub Ends-none : (bytes : List ℕ) (size : ℕ) (ends : List ℕ) → ends ≡ [] → Ends bytes size size ends
Ends-none bytes size [] none = record {
  next = omega arith;
  few = omega arith;
  each = λ k d inside. absurd (omega (arith, inside));
}
Ends-none bytes size (x ∷ ends) none = absurd (cc)

module _ (bytes : List ℕ) (size at : ℕ) (ends : List ℕ) (s : Ends bytes size at ends) where
  pub Ends-cuts : AreCuts bytes ends
  Ends-cuts = ascending bytes (λ k. (k + 1) * size) (λ k. (let step = multiple (k + 1) size in omega (arith, step))) 0 ends (inl refl) (omega arith) s.each

  pub Ends-count : length bytes ≤ at → 0 < size → length ends ≡ (length bytes - 1) / size
  Ends-count past some = sym (div-eq_of_lt-le size s.few (let step = multiple (length ends) size in omega (arith, past, some, s.next, step)))

  module _ (next : List ℕ) (more : at < length bytes) (end : ℕ) (last : IsLastCut bytes at end) where
    abbrev all : List ℕ
    all = ends ++ end ∷ []

    each : (k d : ℕ) → k < length all → IsLastCut bytes ((k + 1) * size) (slice_index_or all k d)
    each k d inside = ⊎_elim
        (λ (before : k < length ends). subst (IsLastCut bytes ((k + 1) * size)) (sym (get_or-append ends (end ∷ []) d k before)) (s.each k d before))
        (λ (not_before : length ends ≤ k).
        let is : k ≡ length ends = omega (arith, not_before, inside, length_push ends end) in
        let same : slice_index_or all k d ≡ end = ap (λ i. slice_index_or all i d) is ∙ get_or-append_seam ends end [] d in
        let here : at ≡ (k + 1) * size = s.next ∙ sym (ap (λ i. (i + 1) * size) is ∙ multiple (length ends) size) in
        subst (λ n. IsLastCut bytes n (slice_index_or all k d)) here (subst (IsLastCut bytes at) (sym same) last))
        (cases_lt k (length ends))

    pub Ends-more : next ≡ all → Ends bytes size (at + size) next
    Ends-more grown =
        let longer : length all * size ≡ length ends * size + size = ap (λ n. n * size) (length_push ends end) ∙ multiple (length ends) size in
        subst (Ends bytes size (at + size)) (sym grown) (record {
          next = omega (arith, s.next, longer);
          few = omega (arith, s.next, longer, more);
          each = each;
        })
