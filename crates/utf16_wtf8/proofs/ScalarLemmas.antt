-- Characters are code points that are not surrogates.
use Rattle.std.proofs.Common.{ℕ, ◌<◌, ◌≤◌, List, [], ◌∷◌, All, ⊎_elim, arith}
use Rattle.std.proofs.lemmas.List.Elements.{All-head, All-tail}
use Rattle.std.specs.Char.{IsScalar}
use Rattle.utf16_units.specs.Unit.{IsLeading, IsTrailing}
use Rattle.utf16_units.proofs.CharLemmas.{no_surrogate}
use Rattle.utf16_wtf8.specs.Wtf8.{HasNoPair, IsCodePoint}
use Rattle.utf16_wtf8.proofs.UnitsLemmas.{no_pair-after}

pub code_point-scalar : (c : ℕ) → IsScalar c → IsCodePoint c
code_point-scalar c scalar = ⊎_elim (λ (low : c < 0xD800). omega arith) (λ (high : (0xE000 ≤ c) × (c < 0x11_0000)). high.1) (no_surrogate c scalar)

pub scalar-not_leading : (c : ℕ) → IsScalar c → ¬ (IsLeading c)
scalar-not_leading c scalar lead =
    ⊎_elim (λ (low : c < 0xD800). omega arith) (λ (high : (0xE000 ≤ c) × (c < 0x11_0000)). omega arith) (no_surrogate c scalar)

pub scalar-not_trailing : (c : ℕ) → IsScalar c → ¬ (IsTrailing c)
scalar-not_trailing c scalar trail =
    ⊎_elim (λ (low : c < 0xD800). omega arith) (λ (high : (0xE000 ≤ c) × (c < 0x11_0000)). omega arith) (no_surrogate c scalar)

pub no_pair-scalars : (text : List ℕ) → All IsScalar text → HasNoPair text
no_pair-scalars [] are = tt
no_pair-scalars (c ∷ text) are =
    no_pair-after c text (scalar-not_leading c (All-head IsScalar c text are)) (no_pair-scalars text (All-tail IsScalar c text are))
