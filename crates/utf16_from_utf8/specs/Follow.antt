-- Well-formed UTF-8, by each byte and the three before it.
use Rattle.std.specs.Prelude.{◌≡◌, ℕ, zero, suc, ◌+◌, ◌-◌, ◌<◌, ◌≤◌, ◌⊎◌, ◌↔◌, ◌==◌, List, ◌∷◌, drop, if◌then◌else◌, length, slice_index}
use Rattle.utf16_units.specs.Lanes.{HasLanes}

-- some bytes after `d` zeros
abbrev pub behind : ℕ → List ℕ → List ℕ
behind zero xs = xs
behind (suc d) xs = 0 ∷ behind d xs

-- whether b0 may come after b3, b2 and b1: it is a continuation byte exactly if b1 begins a
-- character, b2 a character of three bytes or more, or b3 one of four; it is a byte that can occur;
-- and the second byte of three and of four is in its range (Unicode, section 3.9: table 3-7)
pub record Follows (b3 b2 b1 b0 : ℕ) : Type 0 where
  pub continues : ((0xC0 ≤ b1) ⊎ (0xE0 ≤ b2) ⊎ (0xF0 ≤ b3)) ↔ ((0x80 ≤ b0) × (b0 < 0xC0))
  pub begins : (b0 < 0xC0) ⊎ ((0xC2 ≤ b0) × (b0 < 0xF5))
  pub after_E0 : b1 ≡ 0xE0 → 0xA0 ≤ b0
  pub after_ED : b1 ≡ 0xED → b0 < 0xA0
  pub after_F0 : b1 ≡ 0xF0 → 0x90 ≤ b0
  pub after_F4 : b1 ≡ 0xF4 → b0 < 0x90

-- each of the next n bytes may follow the bytes before it, if a text begins at the first
abbrev pub FollowTo : ℕ → List ℕ → ℕ → Type 0
FollowTo n bytes at =
    (i : ℕ) → i < n
    → Follows (slice_index (0 ∷ 0 ∷ 0 ∷ drop at bytes) i) (slice_index (0 ∷ 0 ∷ drop at bytes) i)
    (slice_index (0 ∷ drop at bytes) i) (slice_index bytes (at + i))

-- each of sixteen bytes may follow the three before it, or zeros before the first byte
abbrev pub FollowFrom : List ℕ → ℕ → Type 0
FollowFrom bytes at =
    (i : ℕ) → i < 16
    → Follows (slice_index (behind 3 bytes) (at + i)) (slice_index (behind 2 bytes) (at + i))
    (slice_index (behind 1 bytes) (at + i)) (slice_index bytes (at + i))

-- there are sixty-four bytes more, and they begin a well-formed text
abbrev pub IsBlock : List ℕ → ℕ → Type 0
IsBlock bytes at = (at + 64 ≤ length bytes) × FollowTo 64 bytes at

abbrev pub AreBelow : ℕ → List ℕ → ℕ → ℕ → Type 0
AreBelow n bytes at limit = (i : ℕ) → i < n → slice_index bytes (at + i) < limit

abbrev pub AreBelowFrom : List ℕ → ℕ → ℕ → Type 0
AreBelowFrom bytes from limit = (i : ℕ) → from ≤ i → slice_index bytes i < limit

-- the limit that all bytes of characters of at most `most` bytes are below (Unicode, section 3.9:
-- table 3-6)
abbrev pub limit_of : ℕ → ℕ
limit_of most = if most == 2 then 0xE0 else (if most == 3 then 0xF0 else 0x100)

-- how many of the next n bytes belong to characters that end among them: after these comes one byte
-- of a longer character, two of a character of three or four bytes, or three of one of four
abbrev pub AreUsed : ℕ → List ℕ → ℕ → ℕ → Type 0
AreUsed n bytes at used =
    ((used + 3 ≡ n) × (0xF0 ≤ slice_index bytes (at + used)))
    ⊎ ((used + 2 ≡ n) × (0xE0 ≤ slice_index bytes (at + used)))
    ⊎ ((used + 1 ≡ n) × (0xC0 ≤ slice_index bytes (at + used)))
    ⊎ ((used ≡ n) × (slice_index bytes (at + (n - 1)) < 0xC0) × (slice_index bytes (at + (n - 2)) < 0xE0)
    × (slice_index bytes (at + (n - 3)) < 0xF0))

-- the byte before each one of a block, and the one before that; before the first they are given
pub record AreBefore (before2 before1 : ℕ) (block b2 b1 : List ℕ) : Type 0 where
  pub one : HasLanes 16 b1 (λ i. slice_index (before1 ∷ block) i)
  pub two : HasLanes 16 b2 (λ i. slice_index (before2 ∷ b1) i)

-- b0 after b2 and b1, if characters have at most three bytes
pub record FollowsTwo (limit b2 b1 b0 : ℕ) : Type 0 where
  pub continues : ((0xC0 ≤ b1) ⊎ (0xE0 ≤ b2)) ↔ ((0x80 ≤ b0) × (b0 < 0xC0))
  pub apart : (b2 < 0xE0) ⊎ (b1 < 0xC0)
  pub two : b2 < limit
  pub one : b1 < limit

-- b0 after b2 and b1, if characters have at most four bytes: before a continuation byte, one of the
-- two begins a character, or both are continuation bytes too
pub record FollowsAny (b2 b1 b0 : ℕ) : Type 0 where
  pub continues : (0xC0 ≤ b1) ⊎ (0xE0 ≤ b2) → (0x80 ≤ b0) × (b0 < 0xC0)
  pub apart : (b2 < 0xE0) ⊎ (b1 < 0xC0)
  pub last : (0x80 ≤ b0) × (b0 < 0xC0)
      → (0xC0 ≤ b1) ⊎ (0xE0 ≤ b2) ⊎ ((b1 < 0xC0) × (b2 < 0xC0))
  pub begins : b2 < 0xF5

-- b0 after b2 and b1, if characters have at most `most` bytes
abbrev pub FollowsAtMost : ℕ → ℕ → ℕ → ℕ → Type 0
FollowsAtMost most b2 b1 b0 =
    (limit_of most ≤ 0xF0 → FollowsTwo (limit_of most) b2 b1 b0) × FollowsAny b2 b1 b0

-- the byte d places before each of sixteen bytes, and zero if there is none
abbrev pub LanesBehind : ℕ → List ℕ → ℕ → List ℕ → Type 0
LanesBehind d bytes at v = HasLanes 16 v (λ i. slice_index (behind d bytes) (at + i))

-- the last bytes begin no character that is incomplete, if all before them is well formed
abbrev pub EndsCharacter : List ℕ → Type 0
EndsCharacter bytes =
    (slice_index bytes (length bytes - 1) < 0xC0) × (slice_index bytes (length bytes - 2) < 0xE0)
    × (slice_index bytes (length bytes - 3) < 0xF0)
