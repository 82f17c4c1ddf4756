-- The bytes of lanes, one after another.
use Rattle.std.specs.Prelude.{◌≡◌, ℕ, zero, suc, ◌+◌, ◌*◌, ◌/◌, ◌%◌, ◌<◌, ◌++◌, Bool, cond, List, [], ◌∷◌, nat_lt, slice_index}
use Rattle.utf16_to_utf8.specs.Utf8.{unit_utf8}

-- of two bytes per lane, only the first if the lane's flag is set, else both
abbrev pub packed : List Bool → List ℕ → List ℕ
packed [] bytes = []
packed (flag ∷ flags) [] = []
packed (flag ∷ flags) (first ∷ []) = []
packed (flag ∷ flags) (first ∷ second ∷ bytes) = cond flag (first ∷ []) (first ∷ second ∷ []) ++ packed flags bytes

-- the bytes of sixteen-bit lanes, the low one first
abbrev pub HasBytes : List ℕ → List ℕ → Type 0
HasBytes bytes lanes = (i : ℕ) → i < 8 → (slice_index bytes (2 * i) ≡ slice_index lanes i % 256) × (slice_index bytes (2 * i + 1) ≡ slice_index lanes i / 256 % 256)

-- of the four bytes of a word, the only one of a unit that adds one byte, the last two of a unit
-- that adds two, or those and the first
abbrev pub kept_bytes : Bool → Bool → ℕ → ℕ → ℕ → ℕ → List ℕ
kept_bytes one two x y z w = cond two [] (x ∷ []) ++ cond one (y ∷ []) (z ∷ w ∷ [])

-- lanes have the bytes that a unit adds after the unit before it: one or two, three, or those that
-- the upper bits of the bytes of a third lane choose
abbrev pub IsPair : ℕ → ℕ → ℕ → Type 0
IsPair before unit pair = cond (nat_lt unit 0x80) ((pair % 256) ∷ []) ((pair % 256) ∷ (pair / 256 % 256) ∷ []) ≡ unit_utf8 before unit

abbrev pub IsThree : ℕ → ℕ → ℕ → Type 0
IsThree unit front third = (before : ℕ) → (front % 256) ∷ (front / 256 % 256) ∷ (third % 256) ∷ [] ≡ unit_utf8 before unit

abbrev pub IsKept : ℕ → ℕ → ℕ → ℕ → ℕ → Type 0
IsKept before unit outer ending absence = kept_bytes (nat_lt 0x7F (absence % 256)) (nat_lt 0x7F (absence / 256 % 256)) (outer % 256) (outer / 256 % 256) (ending % 256) (ending / 256 % 256) ≡ unit_utf8 before unit

-- the indices of the three bytes of n lanes, from lane i on: two among sixteen bytes, the third one
-- sixteen bytes later
abbrev pub threes : ℕ → ℕ → List ℕ
threes i zero = []
threes i (suc n) = (2 * i) ∷ (2 * i + 1) ∷ (16 + 2 * i) ∷ threes (i + 1) n

-- the indices of the four bytes of n words, from lane i on: two among sixteen bytes, the others
-- sixteen bytes later
abbrev pub fours : ℕ → ℕ → List ℕ
fours i zero = []
fours i (suc n) = (2 * i) ∷ (2 * i + 1) ∷ (16 + 2 * i) ∷ (17 + 2 * i) ∷ fours (i + 1) n

-- the kept bytes of words of four bytes, with two flags for each word
abbrev pub packed_words : List Bool → List ℕ → List ℕ
packed_words [] bytes = []
packed_words (one ∷ []) bytes = []
packed_words (one ∷ two ∷ flags) [] = []
packed_words (one ∷ two ∷ flags) (x ∷ []) = []
packed_words (one ∷ two ∷ flags) (x ∷ y ∷ []) = []
packed_words (one ∷ two ∷ flags) (x ∷ y ∷ z ∷ []) = []
packed_words (one ∷ two ∷ flags) (x ∷ y ∷ z ∷ w ∷ bytes) = kept_bytes one two x y z w ++ packed_words flags bytes
