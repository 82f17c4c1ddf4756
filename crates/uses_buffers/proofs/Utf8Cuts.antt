-- Boundaries of bytes, the greatest ones at or before offsets.
use Rattle.std.proofs.Common.{◌≡◌, ⊎_elim, ℕ, ◌+◌, ◌<◌, ◌≤◌, suc, List, [], ◌∷◌, length, slice_index_or, inl, inr, subst, arith}
use Rattle.std.proofs.lemmas.Bool.{cases_lt}
use Rattle.utf8_bytes.specs.Boundary.{AreCutsFrom, IsCut}
use Rattle.uses_buffers.specs.Utf8Parts.{IsLastCut}

-- a boundary is in the bytes or at their end
pub IsCut-within : (bytes : List ℕ) (at : ℕ) → IsCut bytes at → at ≤ length bytes
IsCut-within bytes at (inl start) = omega (arith, start)
IsCut-within bytes at (inr (inl boundary)) = boundary.0
IsCut-within bytes at (inr (inr three)) = three.1

-- what `floor_char_boundary` returns
pub IsLastCut-floor : (bytes : List ℕ) (at n : ℕ) → IsCut bytes n → n ≤ at → ((i : ℕ) → n < i → i ≤ at → ¬ (IsCut bytes i)) → IsLastCut bytes at n
IsLastCut-floor bytes at n cut within nearest = record {
  cut = cut;
  within = within;
  last = λ m other low. ⊎_elim (λ (after : n < m). absurd (nearest m after low other)) (λ (before : m ≤ n). before) (cases_lt n m);
}

-- the greatest boundaries at or before offsets that ascend
pub ascending : (bytes : List ℕ) (offset : ℕ → ℕ) (ascends : (k : ℕ) → offset k ≤ offset (k + 1)) (start : ℕ) (ends : List ℕ) → IsCut bytes start → start ≤ offset 0
    → ((k d : ℕ) → k < length ends → IsLastCut bytes (offset k) (slice_index_or ends k d)) → AreCutsFrom bytes start ends
ascending bytes offset ascends start [] cut low each = tt
ascending bytes offset ascends start (end ∷ ends) cut low each =
    let first : IsLastCut bytes (offset 0) end = each 0 0 (omega arith) in
    let step = ascends 0 in (
      first.last start cut low,
      first.cut,
      ascending bytes (λ k. offset (k + 1)) (λ k. ascends (k + 1)) end ends first.cut (omega (arith, first.within, step)) (λ k d inside. (let next : suc k ≡ k + 1 = omega arith in subst (λ i. IsLastCut bytes (offset i) (slice_index_or ends k d)) next (each (suc k) d (omega (arith, inside))))),
    )
