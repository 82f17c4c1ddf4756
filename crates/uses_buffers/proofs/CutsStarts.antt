-- The offsets at which the parts of a file begin, found one after another.
use Rattle.std.proofs.Common.{◌≡◌, ⊎_elim, ℕ, ◌+◌, ◌-◌, ◌<◌, ◌≤◌, Bool, false, List, [], ◌∷◌, ◌++◌, All, nat_lt, length, slice_index_or, sym, ap, ◌∙◌, subst, arith}
use Rattle.std.proofs.Math.ListN.{get_or-append}
use Rattle.std.proofs.Math.Seq.{get_or-append_seam}
use Rattle.std.proofs.lemmas.Bool.{cases_lt}
use Rattle.std.proofs.lemmas.Bool.Decides.{nat_tests}
use Rattle.std.proofs.lemmas.List.{length_push}
use Rattle.std.proofs.lemmas.List.Kept.{IsSortedBy-push}
use Rattle.std.specs.List.Sorted.{IsSortedBy}
use Rattle.utf16_bytes.specs.Boundary.{IsCut, IsLastCut}
use Rattle.utf16_bytes.specs.Shards.{shard_start}
use Rattle.utf16_bytes.proofs.ShardLemmas.{shard_start-ascends}

-- the starts of the parts 1 to `index - 1`
pub record Starts (big : Bool) (file : List ℕ) (count index : ℕ) (starts : List ℕ) : Type 0 where
  pub long : length starts + 1 ≡ index
  pub few : length starts ≤ count - 1
  pub each : (k d : ℕ) → k < length starts → IsLastCut big file (shard_start (length file) count (k + 1)) (slice_index_or starts k d)
  pub ascend : IsSortedBy nat_lt starts

pub Starts-none : (big : Bool) (file : List ℕ) (count : ℕ) (starts : List ℕ) → starts ≡ [] → Starts big file count 1 starts
Starts-none big file count [] none = record {
  long = omega arith;
  few = omega arith;
  each = λ k d inside. absurd (omega (arith, inside));
  ascend = λ k d low high. absurd (omega (arith, high));
}
Starts-none big file count (x ∷ starts) none = absurd (cc)

pub Starts-cuts : (big : Bool) (file : List ℕ) (count index : ℕ) (starts : List ℕ) → Starts big file count index starts → All (IsCut big file) starts
Starts-cuts big file count index starts s k d inside = (s.each k d inside).cut

module _ (big : Bool) (file : List ℕ) (count index : ℕ) (starts next : List ℕ) (s : Starts big file count index starts) (more : index < count) (start : ℕ)
    (last : IsLastCut big file (shard_start (length file) count index) start) where
  abbrev all : List ℕ
  all = starts ++ start ∷ []

  each : (k d : ℕ) → k < length all → IsLastCut big file (shard_start (length file) count (k + 1)) (slice_index_or all k d)
  each k d inside = ⊎_elim
      (λ (before : k < length starts). subst (IsLastCut big file (shard_start (length file) count (k + 1))) (sym (get_or-append starts (start ∷ []) d k before)) (s.each k d before))
      (λ (not_before : length starts ≤ k).
      let at : k ≡ length starts = omega (arith, not_before, inside, length_push starts start) in
      let same : slice_index_or all k d ≡ start = ap (λ i. slice_index_or all i d) at ∙ get_or-append_seam starts start [] d in
      let here : index ≡ k + 1 = omega (arith, at, s.long) in
      subst (λ i. IsLastCut big file (shard_start (length file) count i) (slice_index_or all k d)) here (subst (IsLastCut big file (shard_start (length file) count index)) (sym same) last))
      (cases_lt k (length starts))

  -- the one before is a boundary at or before the next part's offset
  not_less : (d : ℕ) → 0 < length starts → nat_lt start (slice_index_or starts (length starts - 1) d) ≡ false
  not_less d some =
      let before = s.each (length starts - 1) d (omega (arith, some)) in
      let here : length starts - 1 + 1 + 1 ≡ index = omega (arith, some, s.long) in
      let ascends = subst (λ i. shard_start (length file) count (length starts - 1 + 1) ≤ shard_start (length file) count i) here (shard_start-ascends (length file) count (length starts - 1 + 1)) in
      let at_most : slice_index_or starts (length starts - 1) d ≤ start = last.last _ before.cut (omega (arith, before.within, ascends)) in
      grind (arith, nat_tests)

  pub Starts-more : next ≡ all → Starts big file count (index + 1) next
  Starts-more grown = subst (Starts big file count (index + 1)) (sym grown) (record {
    long = omega (arith, s.long, length_push starts start);
    few = omega (arith, s.long, more, length_push starts start);
    each = each;
    ascend = IsSortedBy-push nat_lt starts start s.ascend not_less;
  })
