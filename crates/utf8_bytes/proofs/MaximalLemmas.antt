-- The length in std's error is the length of a maximal subpart in the Standard's words.
use Rattle.std.proofs.Common.{◌≡◌, ◌↔◌, ℕ, ◌<◌, List, Option, None, Some, take, refl, sym, ap, ◌∙◌, ⊎_elim, arith}
use Rattle.std.proofs.lemmas.Bool.{cases_order}
use Rattle.std.specs.Str.{StartsWithNoChar}
use Rattle.std.specs.Str.Lossy.{utf8_error_len}
use Rattle.utf8_bytes.specs.Laws.{IsMaximal}
use Rattle.utf8_bytes.specs.Split.{IsTail}
use Rattle.utf8_bytes.proofs.PartLemmas.{Subpart, subpart_at, tail_from, tail_undecided}

module _ (bytes : List ℕ) where
  maximal_from : (len : ℕ) → Subpart bytes len → IsMaximal bytes len
  maximal_from len s = record { some = s.some; within = s.within; begins = s.begins; longest = s.longest }

  not_tail : (len : ℕ) → utf8_error_len bytes ≡ Some len → ¬ (IsTail bytes)
  not_tail len error ends =
      let same : None ≡ Some len = sym (tail_undecided bytes ends).1 ∙ error in
      absurd (cc)

  -- no two lengths are maximal
  not_shorter : (len other : ℕ) → IsMaximal bytes len → IsMaximal bytes other → ¬ (len < other)
  not_shorter len other m o less = ⊎_elim
      (λ (ends : IsTail (take other bytes)). m.longest other less o.within ends)
      (λ (one : other ≡ 1). let some = m.some in omega arith)
      o.begins

  one_maximal : (len other : ℕ) → IsMaximal bytes len → IsMaximal bytes other → len ≡ other
  one_maximal len other m o = ⊎_elim (λ (same : len ≡ other). same)
      (⊎_elim (λ (less : len < other). absurd (not_shorter len other m o less)) (λ (more : other < len). absurd (not_shorter other len o m more)))
      (cases_order len other)

  maximal_len : (error : Option ℕ) (len : ℕ) → StartsWithNoChar bytes → utf8_error_len bytes ≡ error → IsMaximal bytes len → ¬ (IsTail bytes) → error ≡ Some len
  maximal_len None len none error m not = absurd (not (tail_from bytes none error))
  maximal_len (Some other) len none error m not = ap Some (one_maximal other len (maximal_from other (subpart_at bytes other none error)) m)

  pub error_len_is : (len : ℕ) → StartsWithNoChar bytes → (utf8_error_len bytes ≡ Some len) ↔ (IsMaximal bytes len × (¬ (IsTail bytes)))
  error_len_is len none = (
    (λ error. (maximal_from len (subpart_at bytes len none error), not_tail len error)),
    (λ m. maximal_len (utf8_error_len bytes) len none refl m.0 m.1),
  )
