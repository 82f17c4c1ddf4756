-- Bytes whose code units are changed in place, one after another.
use Rattle.std.proofs.Common.{◌≡◌, ℕ, ◌+◌, ◌-◌, ◌<◌, ◌≤◌, Bool, List, [], ◌∷◌, ◌++◌, length, take, drop, slice_index, refl, sym, ap, ap₂, ◌∙◌, arith, append_assoc, length-drop, take-append-drop}
use Rattle.std.proofs.lemmas.List.{drop_more}
use Rattle.utf16_units.specs.Unit.{unit_bytes, unit_of}
use Rattle.utf16string.proofs.ChangedUnits.{changed}

module _ (f : ℕ → ℕ) (big : Bool) (old : List ℕ) where
  -- the units before an offset are changed; with the others changed too, they are all units changed
  abbrev pub ChangedTo : List ℕ → ℕ → Type 0
  ChangedTo now at = (at ≤ length now) × (take at now ++ changed f big (drop at now) ≡ changed f big old)

  two-changed : (x y : ℕ) (bytes : List ℕ) → changed f big (x ∷ y ∷ bytes) ≡ unit_bytes big (f (unit_of big x y)) ++ changed f big bytes
  unfolding changed
  two-changed x y bytes = refl

  few-changed : (bytes : List ℕ) → length bytes < 2 → changed f big bytes ≡ bytes
  unfolding changed
  few-changed [] few = refl
  few-changed (x ∷ []) few = refl
  few-changed (x ∷ y ∷ bytes) few = absurd (omega (arith, few))

  pub ChangedTo-next : (now new : List ℕ) (at : ℕ) → at + 2 ≤ length new → length new ≡ length now
      → take (at + 2) new ≡ take at now ++ unit_bytes big (f (unit_of big (slice_index now at) (slice_index now (at + 1)))) → drop (at + 2) new ≡ drop (at + 2) now
      → ChangedTo now at → ChangedTo new (at + 2)
  ChangedTo-next now new at room same front behind so =
      let x = slice_index now at in
      let y = slice_index now (at + 1) in
      let rest = drop (at + 2) now in
      let next : at + 1 + 1 ≡ at + 2 = omega arith in
      let cut : drop at now ≡ x ∷ y ∷ rest =
      drop_more now at 0 (omega arith) ∙ ap (λ t. x ∷ t) (drop_more now (at + 1) 0 (omega arith)) ∙ ap (λ n. x ∷ y ∷ drop n now) next in (
        room,
        ap₂ (λ s t. s ++ changed f big t) front behind
            ∙ append_assoc (take at now) (unit_bytes big (f (unit_of big x y))) (changed f big rest)
            ∙ ap (λ t. take at now ++ t) (sym (ap (changed f big) cut ∙ two-changed x y rest))
            ∙ so.1,
      )

  pub ChangedTo-all : (now : List ℕ) (at : ℕ) → ChangedTo now at → length now - at < 2 → now ≡ changed f big old
  ChangedTo-all now at so few =
      sym (ap (λ t. take at now ++ t) (few-changed (drop at now) (omega (arith, length-drop at now, few))) ∙ take-append-drop at now) ∙ so.1
