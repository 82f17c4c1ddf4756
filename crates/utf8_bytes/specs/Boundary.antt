-- Where any bytes of UTF-8 may be cut, well formed or not, so that each part can be decoded by
-- itself.
use Rattle.std.specs.Prelude.{◌≡◌, ℕ, ◌-◌, ◌<◌, ◌≤◌, ◌⊎◌, List, [], ◌∷◌, length, slice_index}
use Rattle.std.specs.Str.{IsCharBoundary}

-- a continuation byte, which is the second, third or fourth of a character (Unicode, section 3.9,
-- table 3-7)
abbrev pub IsContinuation : ℕ → Type 0
IsContinuation byte = (0x80 ≤ byte) × (byte < 0xC0)

-- an offset that follows three continuation bytes: no character has more of them
abbrev pub FollowsThree : List ℕ → ℕ → Type 0
FollowsThree bytes at = (3 ≤ at) × (at ≤ length bytes) × IsContinuation (slice_index bytes (at - 3))
    × IsContinuation (slice_index bytes (at - 2)) × IsContinuation (slice_index bytes (at - 1))

-- a boundary: the start; the end or the offset of a byte that is not a continuation byte, which are
-- std's boundaries of a text; or an offset that follows three continuation bytes
abbrev pub IsCut : List ℕ → ℕ → Type 0
IsCut bytes at = (at ≡ 0) ⊎ (IsCharBoundary bytes at ⊎ FollowsThree bytes at)

-- offsets ascend, and each is a boundary
abbrev pub AreCutsFrom : List ℕ → ℕ → List ℕ → Type 0
AreCutsFrom bytes start [] = Unit {0}
AreCutsFrom bytes start (end ∷ ends) = (start ≤ end) × IsCut bytes end × AreCutsFrom bytes end ends

abbrev pub AreCuts : List ℕ → List ℕ → Type 0
AreCuts bytes ends = AreCutsFrom bytes 0 ends
