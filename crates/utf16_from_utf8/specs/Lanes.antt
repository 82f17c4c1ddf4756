-- The two bytes of units next to each other, and which of these pairs are kept.
use Rattle.std.specs.Prelude.{◌≡◌, ℕ, ◌*◌, ◌/◌, ◌%◌, ◌≤◌, ◌==◌, Bool, true, false, List, [], ◌∷◌, ◌++◌, if◌then◌else◌, length, take, count_ones}
use Rattle.std.specs.List.{range_with_len}
use Rattle.std.specs.Simd.Lanes.{all_below}

-- the two bytes of a unit by its high and its low byte (Unicode, section 3.10: UTF-16BE and
-- UTF-16LE)
abbrev pub pair_bytes : Bool → ℕ → ℕ → List ℕ
pair_bytes true high low = high ∷ low ∷ []
pair_bytes false high low = low ∷ high ∷ []

-- the bytes of several units
abbrev pub pairs_of : Bool → List ℕ → List ℕ → List ℕ
pairs_of big [] lows = []
pairs_of big (high ∷ highs) [] = []
pairs_of big (high ∷ highs) (low ∷ lows) = pair_bytes big high low ++ pairs_of big highs lows

-- the pairs whose bit is set, the lowest bit first
abbrev pub kept_pairs : ℕ → List ℕ → List ℕ
kept_pairs bits [] = []
kept_pairs bits (byte ∷ []) = []
kept_pairs bits (first ∷ second ∷ pairs) = (if bits % 2 == 1 then first ∷ second ∷ [] else []) ++ kept_pairs (bits / 2) pairs

-- the indices of the pairs of bytes whose bit is set, of eight pairs: they are at the front of
-- sixteen positions in a vector
pub record Packs (bits : ℕ) (positions : List ℕ) : Type 0 where
  pub kept : take (2 * count_ones bits) positions ≡ kept_pairs bits (range_with_len 0 16)
  pub len : length positions ≡ 16
  pub few : count_ones bits ≤ 8
  pub below : all_below 16 positions ≡ true
