-- The kinds of blocks of code units.
use Rattle.std.specs.Prelude.{◌≡◌, ℕ, ◌<◌, ◌≤◌, List, false, length, slice_index}
use Rattle.utf16_to_utf8.specs.declared.blocks.Kind.{Kind}
use Rattle.utf16_to_utf8.specs.declared.blocks.Kind.TheVariants.{Ascii, Basic, Letters, Mixed, Pairs, Wide}
use Rattle.utf16_to_utf8.specs.Lanes.{added_len, is_surrogate}

-- a unit has this kind
abbrev pub IsOfKind : Kind → ℕ → Type 0
IsOfKind Ascii unit = unit < 0x80
IsOfKind Letters unit = (is_surrogate unit ≡ false) × (added_len unit ≤ 2)
IsOfKind Pairs unit = added_len unit ≤ 2
IsOfKind Wide unit = added_len unit ≡ 3
IsOfKind Basic unit = is_surrogate unit ≡ false
IsOfKind Mixed unit = Unit {0}

abbrev pub AreOfKind : Kind → List ℕ → Type 0
AreOfKind kind units = (i : ℕ) → i < length units → IsOfKind kind (slice_index units i)

-- a block of the kind has no surrogate
abbrev pub IsPlain : Kind → Type 0
IsPlain Ascii = Unit {0}
IsPlain Letters = Unit {0}
IsPlain Pairs = ⊥
IsPlain Wide = Unit {0}
IsPlain Basic = Unit {0}
IsPlain Mixed = ⊥
