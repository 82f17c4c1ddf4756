-- The bytes of a character: all but the first are continuation bytes.
use Rattle.std.proofs.Common.{◌≡◌, ◌⊎◌, ℕ, zero, suc, ◌<◌, ◌≤◌, List, [], ◌∷◌, ◌++◌, length, slice_index, inl, inr, sym, ap, ◌∙◌, subst, arith}
use Rattle.std.proofs.lemmas.Bool.Decides.{nat_tests}
use Rattle.std.proofs.lemmas.List.{get_or_append_left}
use Rattle.std.proofs.str.Laws.{Follows, Scalar, Shape, of1, of2, of3, of4, shape}
use Rattle.std.specs.Char.{IsScalar, encode_utf8}

scalar_range : (c : ℕ) → IsScalar c → Scalar c
scalar_range c scalar = grind (arith, nat_tests)

-- ---- the bytes after the first

after_two : (a b : ℕ) → Follows b → (i : ℕ) → 0 < i → i < 2 → Follows (slice_index (a ∷ b ∷ []) i)
after_two a b f zero some within = absurd (omega arith)
after_two a b f (suc zero) some within = f
after_two a b f (suc (suc i)) some within = absurd (omega arith)

after_three : (a b d : ℕ) → Follows b → Follows d → (i : ℕ) → 0 < i → i < 3 → Follows (slice_index (a ∷ b ∷ d ∷ []) i)
after_three a b d f g zero some within = absurd (omega arith)
after_three a b d f g (suc zero) some within = f
after_three a b d f g (suc (suc i)) some within = after_two b d g (suc i) (omega arith) (omega arith)

after_four : (a b d e : ℕ) → Follows b → Follows d → Follows e → (i : ℕ) → 0 < i → i < 4 → Follows (slice_index (a ∷ b ∷ d ∷ e ∷ []) i)
after_four a b d e f g h zero some within = absurd (omega arith)
after_four a b d e f g h (suc zero) some within = f
after_four a b d e f g h (suc (suc i)) some within = after_three b d e g h (suc i) (omega arith) (omega arith)

in_shape : (c : ℕ) → Shape c → (i : ℕ) → 0 < i → i < length (encode_utf8 c) → Follows (slice_index (encode_utf8 c) i)
in_shape c (of1 l e) i some within = absurd (omega (arith, ap length e))
in_shape c (of2 a b l h f s e) i some within =
    subst (λ bytes. Follows (slice_index bytes i)) (sym e) (after_two a b f i some (omega (arith, ap length e)))
in_shape c (of3 a b d l h f g s e) i some within =
    subst (λ bytes. Follows (slice_index bytes i)) (sym e) (after_three a b d f g i some (omega (arith, ap length e)))
in_shape c (of4 a b d x l h f g k s e) i some within =
    subst (λ bytes. Follows (slice_index bytes i)) (sym e) (after_four a b d x f g k i some (omega (arith, ap length e)))

-- ---- the first byte

starts : (first : ℕ) (rest bytes : List ℕ) → (first < 128) ⊎ (192 ≤ first) → bytes ≡ first ∷ rest → ¬ (Follows (slice_index bytes 0))
starts first rest bytes (inl low) e f =
    let byte : slice_index bytes 0 ≡ first = ap (λ b. slice_index b 0) e in
    omega (arith, f.0)
starts first rest bytes (inr high) e f =
    let byte : slice_index bytes 0 ≡ first = ap (λ b. slice_index b 0) e in
    omega (arith, f.1)

starts_shape : (c : ℕ) → Shape c → ¬ (Follows (slice_index (encode_utf8 c) 0))
starts_shape c (of1 l e) = starts c [] (encode_utf8 c) (inl l) e
starts_shape c (of2 a b l h f s e) = starts a (b ∷ []) (encode_utf8 c) (inr l) e
starts_shape c (of3 a b d l h f g s e) = starts a (b ∷ d ∷ []) (encode_utf8 c) (inr (omega arith)) e
starts_shape c (of4 a b d x l h f g k s e) = starts a (b ∷ d ∷ x ∷ []) (encode_utf8 c) (inr (omega arith)) e

-- ---- bytes that begin with a character

module _ (c : ℕ) (rest bytes : List ℕ) (scalar : IsScalar c) (e : bytes ≡ encode_utf8 c ++ rest) where
  same : (i : ℕ) → i < length (encode_utf8 c) → slice_index bytes i ≡ slice_index (encode_utf8 c) i
  same i within = ap (λ b. slice_index b i) e ∙ get_or_append_left (encode_utf8 c) rest 0 i within

  pub continues : (i : ℕ) → 0 < i → i < length (encode_utf8 c) → Follows (slice_index bytes i)
  continues i some within = subst Follows (sym (same i within)) (in_shape c (shape c (scalar_range c scalar)) i some within)

  pub begins : 0 < length (encode_utf8 c) → ¬ (Follows (slice_index bytes 0))
  begins some f = starts_shape c (shape c (scalar_range c scalar)) (subst Follows (same 0 some) f)
