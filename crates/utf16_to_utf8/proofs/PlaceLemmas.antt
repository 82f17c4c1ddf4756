-- The table of source indices, row by row.
use Rattle.std.proofs.Common.{◌≡◌, ℕ, zero, suc, ◌-◌, ◌<◌, ◌&&◌, Bool, true, false, List, [], ◌∷◌, count_ones, eqb, length, get_or, take, refl, arith, eqb-true}
use Rattle.std.proofs.lemmas.Bool.{and_parts}
use Rattle.std.proofs.lemmas.Slice.Eq.{bytes_eq-Decides}
use Rattle.std.specs.List.{range_with_len}
use Rattle.std.specs.Str.{bytes_eq}
use lib.Count.{ones}
use lib.Lanes.{Each1, all_below, mask_l}
use Rattle.utf16_units.proofs.LanesByIndex.{all_below-each}
use Rattle.utf16_to_utf8.specs.declared.places.TheConstants.{PLACES}
use Rattle.utf16_to_utf8.specs.Pack.{packed}

-- a test of all lists of n flags
abbrev pub all_flags : ℕ → (List Bool → Bool) → Bool
all_flags zero test = test []
all_flags (suc n) test = all_flags n (λ flags. test (true ∷ flags)) && all_flags n (λ flags. test (false ∷ flags))

pub all_flags-each : (n : ℕ) (test : List Bool → Bool) → all_flags n test ≡ true → (flags : List Bool) → length flags ≡ n → test flags ≡ true
all_flags-each zero test all [] long = all
all_flags-each zero test all (flag ∷ flags) long = absurd (omega arith)
all_flags-each (suc n) test all [] long = absurd (omega arith)
all_flags-each (suc n) test all (true ∷ flags) long = all_flags-each n (λ rest. test (true ∷ rest)) (and_parts _ _ all).0 flags (omega arith)
all_flags-each (suc n) test all (false ∷ flags) long = all_flags-each n (λ rest. test (false ∷ rest)) (and_parts _ _ all).1 flags (omega arith)

-- whether the row for these flags is right
abbrev is_row : List Bool → Bool
is_row flags = bytes_eq (take (16 - count_ones (mask_l flags)) (get_or PLACES (mask_l flags) [])) (packed flags (range_with_len 0 16))

pub row : (flags : List Bool) → length flags ≡ 8 → take (16 - count_ones (mask_l flags)) (get_or PLACES (mask_l flags) []) ≡ packed flags (range_with_len 0 16)
unfolding ones
row flags long = (bytes_eq-Decides _ _).0 (all_flags-each 8 is_row refl flags long)

-- whether all rows are sixteen indices into a vector
abbrev pub all_good : List (List ℕ) → Bool
all_good [] = true
all_good (places ∷ rows) = (eqb (length places) 16 && all_below 16 places) && all_good rows

abbrev pub Good : List ℕ → Type 0
Good places = (length places ≡ 16) × Each1 (λ place. place < 16) places

pub each-good : (rows : List (List ℕ)) (k : ℕ) → k < length rows → all_good rows ≡ true → Good (get_or rows k [])
each-good [] k below all = absurd (omega arith)
each-good (places ∷ rows) zero below all =
    let first = and_parts (eqb (length places) 16 && all_below 16 places) (all_good rows) all in
    let parts = and_parts (eqb (length places) 16) (all_below 16 places) first.0 in
    (eqb-true _ _ parts.0, all_below-each 16 places parts.1)
each-good (places ∷ rows) (suc k) below all =
    each-good rows k (omega arith) (and_parts (eqb (length places) 16 && all_below 16 places) (all_good rows) all).1

pub row-good : (k : ℕ) → k < 256 → Good (get_or PLACES k [])
row-good k below = each-good PLACES k below refl
