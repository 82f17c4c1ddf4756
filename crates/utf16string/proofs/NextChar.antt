-- The next character of bytes, whether it has one unit or two.
use Rattle.std.proofs.Common.{◌≡◌, ℕ, ◌+◌, ◌<◌, ◌≤◌, Bool, List, [], ◌∷◌, take, drop, get_or, get_or-drop, length, refl, sym, ap, ap₂, ◌∙◌, subst, arith}
use Rattle.std.proofs.lemmas.List.{length-drop}
use Rattle.utf16_units.specs.Boundary.{IsBoundary}
use Rattle.utf16_units.specs.Encoding.{Encodes, IsUtf16, char_size}
use Rattle.utf16_units.specs.Unit.{IsLeading, unit_of}
use Rattle.utf16_units.proofs.BoundaryLemmas.{Encodes-to, text_to-front}
use Rattle.utf16_units.proofs.CharLemmas.{char_size_two}
use Rattle.utf16_units.proofs.EncodingLemmas.{Encodes-text_of, size-cons, size-nil}
use Rattle.utf16_units.proofs.FirstChar.{first_unit}
use Rattle.utf16_units.proofs.FrontChar.{SplitsAt, splits_one, two_bytes}

-- the bytes of a first character
module _ (big : Bool) (c : ℕ) (text bytes : List ℕ) (e : Encodes big (c ∷ text) bytes) where
  behind : IsBoundary (c ∷ text) (char_size c)
  behind = record { front = c ∷ []; back = text; split = refl; offset = omega (arith, size-cons c [], size-nil) }

  pub first-bytes : Encodes big (c ∷ []) (take (char_size c) bytes)
  unfolding behind
  first-bytes = subst (λ t. Encodes big t (take (char_size c) bytes)) (text_to-front _ _ behind) (Encodes-to _ _ _ _ e behind)

-- the first unit of the bytes from an index on, if these are well-formed
module _ (big : Bool) (bytes : List ℕ) (at : ℕ) (ahead : IsUtf16 big (drop at bytes)) (within : at < length bytes) where
  pub unit-within : at + 2 ≤ length bytes
  unit-within =
      let rest = length-drop at bytes in
      omega (arith, rest, two_bytes big (drop at bytes) ahead (omega (arith, rest, within)))

  -- u is this unit
  module _ (u : ℕ) (is : u ≡ unit_of big (get_or bytes at 0) (get_or bytes (at + 1) 0)) where
    first : u ≡ first_unit big (drop at bytes)
    first =
        let here : at ≡ at + 0 = omega arith in
        is ∙ ap₂ (unit_of big) (ap (λ i. get_or bytes i 0) here ∙ sym (get_or-drop at bytes 0 0)) (sym (get_or-drop at bytes 1 0))

    -- if u is not a leading surrogate, it is a character
    module _ (single : IsLeading u → ⊥) where
      pub unit-splits : SplitsAt big (drop at bytes) u 2
      unit-splits =
          subst (λ v. SplitsAt big (drop at bytes) v 2) (sym first)
          (splits_one big (drop at bytes) ahead (omega (arith, length-drop at bytes, within)) (subst (λ v. IsLeading v → ⊥) first single))

      pub unit-char : u < 0x1_0000 → Encodes big (u ∷ []) (take 2 (drop at bytes))
      unit-char unit =
          subst (λ n. Encodes big (u ∷ []) (take n (drop at bytes))) (char_size_two u unit)
          (first-bytes big u _ (drop at bytes) (subst (λ t. Encodes big t (drop at bytes)) unit-splits.text (Encodes-text_of big (drop at bytes) ahead)))
