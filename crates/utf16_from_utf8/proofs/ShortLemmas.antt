-- Texts of eight to sixteen bytes.
use Rattle.std.proofs.Common.{◌≡◌, ℕ, zero, suc, ◌+◌, ◌-◌, ◌<◌, ◌≤◌, true, cond, ltb, List, [], ◌∷◌, ◌++◌, length, take, drop, get_or, get_or-drop, slice_index, map, refl, sym, ap, ap₂, ◌∙◌, ⊎_elim, arith, lt-ltb, le-ltb, Fits, w8, replicate, subst, length-append, length-take-le}
use Rattle.std.proofs.lemmas.Bool.{cases_lt}
use Rattle.std.proofs.lemmas.List.{length-map, get_or-take, get_or_append_left, get_or-append_right, get_or-map}
use Rattle.std.proofs.lemmas.List.FromFn.{get_or-map-range_with_len}
use Rattle.std.proofs.lemmas.Simd.{Each1-get_or, get_or-chunk, get_or-replicate, length-chunk, length-replicate, pick_l_whole, swz_l, SwzOk, SwzOk-from_below}
use Rattle.std.proofs.lemmas.Str.{IsAscii-take}
use Rattle.std.specs.List.{range_with_len}
use lib.Lanes.{Each1, all_below, chunk, pick_l}
use Rattle.utf16_units.specs.Lanes.{HasLanes}
use Rattle.utf16_units.proofs.LanesByIndex.{all_below-each}
use Rattle.utf16_from_utf8.specs.Short.{IsOrder, place}
use Rattle.utf16_from_utf8.specs.declared.short.TheConstants.{FILL, ORDER}
use Rattle.std.specs.Str.{IsAscii, IsUtf8}
use Rattle.utf16_from_utf8.specs.Follow.{AreBefore, FollowsAny, behind}
use Rattle.utf16_from_utf8.specs.UnitLanes.{four_high, four_low}
use Rattle.utf16_from_utf8.proofs.AsciiLemmas.{block-ascii}
use Rattle.utf16_from_utf8.proofs.BlockLemmas.{AreUnits, two-behind}
use Rattle.utf16_from_utf8.proofs.FollowLemmas.{follows-any, later-lanes, same-three}
use Rattle.utf16_from_utf8.proofs.LaneByteLemmas.{bytes-by}
use Rattle.utf16_from_utf8.proofs.PackLemmas.{swz_l-pick}
use Rattle.utf16_from_utf8.proofs.UnitLemmas.{four-unit}
use Rattle.utf16_from_utf8.proofs.WellFormedLemmas.{text-follows}

-- lists of the same length with the same elements
pub same-by-index : (xs ys : List ℕ) → length xs ≡ length ys → ((i : ℕ) → i < length xs → get_or xs i 0 ≡ get_or ys i 0) → xs ≡ ys
same-by-index [] [] long each = refl
same-by-index [] (y ∷ ys) long each = absurd (omega arith)
same-by-index (x ∷ xs) [] long each = absurd (omega arith)
same-by-index (x ∷ xs) (y ∷ ys) long each = ap₂ (λ z zs. z ∷ zs) (each 0 (omega arith)) (same-by-index xs ys (omega arith) (λ i below. each (suc i) (omega arith)))

-- ---- the table of places

-- a row, computed
abbrev row : ℕ → List ℕ
row len = map (place len) (range_with_len 0 16)

is-row : (k : ℕ) → k < 9 → IsOrder (8 + k) (get_or ORDER k [])
is-row k below = record { places = λ i b. ap (λ r. slice_index r i) (table k below) ∙ get_or-map-range_with_len (place (8 + k)) 0 16 i i 0 b (omega arith); length = ap length (table k below); below = small k below }
  where
    table : (k : ℕ) → k < 9 → get_or ORDER k [] ≡ row (8 + k)
    table zero b = refl
    table (suc zero) b = refl
    table (suc (suc zero)) b = refl
    table (suc (suc (suc zero))) b = refl
    table (suc (suc (suc (suc zero)))) b = refl
    table (suc (suc (suc (suc (suc zero))))) b = refl
    table (suc (suc (suc (suc (suc (suc zero)))))) b = refl
    table (suc (suc (suc (suc (suc (suc (suc zero))))))) b = refl
    table (suc (suc (suc (suc (suc (suc (suc (suc zero)))))))) b = refl
    table (suc (suc (suc (suc (suc (suc (suc (suc (suc k))))))))) b = absurd (omega arith)

    small : (k : ℕ) → k < 9 → all_below 16 (get_or ORDER k []) ≡ true
    small zero b = refl
    small (suc zero) b = refl
    small (suc (suc zero)) b = refl
    small (suc (suc (suc zero))) b = refl
    small (suc (suc (suc (suc zero)))) b = refl
    small (suc (suc (suc (suc (suc zero))))) b = refl
    small (suc (suc (suc (suc (suc (suc zero)))))) b = refl
    small (suc (suc (suc (suc (suc (suc (suc zero))))))) b = refl
    small (suc (suc (suc (suc (suc (suc (suc (suc zero)))))))) b = refl
    small (suc (suc (suc (suc (suc (suc (suc (suc (suc k))))))))) b = absurd (omega arith)

pub is-order : (len : ℕ) → 8 ≤ len → len ≤ 16 → IsOrder len (get_or ORDER (len - 8) [])
is-order len some few = subst (λ n. IsOrder n (get_or ORDER (len - 8) [])) (omega arith) (is-row (len - 8) (omega arith))

pub order-fits : (len : ℕ) (order : List ℕ) → IsOrder len order → SwzOk w8 16 16 0 order
order-fits len order is = SwzOk-from_below w8 16 1 16 0 order refl (omega (arith, is.length)) (all_below-each 16 order is.below)

-- ---- the bytes put in order

module _ (piece order : List ℕ) (some : 8 ≤ length piece) (few : length piece ≤ 16) (is : IsOrder (length piece) order) where
  abbrev pub first : List ℕ
  first = chunk 0 8 piece

  abbrev pub last : List ℕ
  last = chunk (length piece - 8) 8 piece

  at-place : (i : ℕ) → i < length piece → get_or (first ++ last) (place (length piece) i) 0 ≡ get_or piece i 0
  at-place i below = ⊎_elim
      (λ (front : i < 8).
      ap (λ t. get_or (first ++ last) (cond t i (cond (ltb i (length piece)) (i + 16 - length piece) 0)) 0) (lt-ltb i 8 front)
      ∙ get_or_append_left first last 0 i (omega (arith, front, length-chunk 0 8 piece some))
      ∙ get_or-chunk 0 8 piece i 0 front ∙ ap (slice_index piece) (omega arith))
      (λ (back : 8 ≤ i).
      ap₂ (λ s t. get_or (first ++ last) (cond s i (cond t (i + 16 - length piece) 0)) 0) (le-ltb i 8 back) (lt-ltb i (length piece) below)
      ∙ get_or-append_right first last 8 (i + 16 - length piece) 0 (length-chunk 0 8 piece some) (omega arith)
      ∙ get_or-chunk (length piece - 8) 8 piece (i + 16 - length piece - 8) 0 (omega arith) ∙ ap (slice_index piece) (omega arith))
      (cases_lt i 8)

  pub in-order : take (length piece) (swz_l w8 16 (pick_l 0 (first ++ last) (range_with_len 0 16)) 0 order) ≡ piece
  in-order =
      let whole = pick_l_whole 0 (first ++ last) 16 (omega (arith, length-append first last, length-chunk 0 8 piece some, length-chunk (length piece - 8) 8 piece (omega arith))) in
      ap (λ v. take (length piece) (swz_l w8 16 v 0 order)) whole
      ∙ ap (take (length piece)) (swz_l-pick (first ++ last) 0 order (omega (arith, is.length)) (all_below-each 16 order is.below))
      ∙ same-by-index (take (length piece) (pick_l 0 (first ++ last) order)) piece (length-take-le (length piece) (pick_l 0 (first ++ last) order) (omega (arith, length-map order (λ k. get_or (first ++ last) k 0), is.length)))
      (λ i below.
      let there : i < length piece = omega (arith, below, length-take-le (length piece) (pick_l 0 (first ++ last) order) (omega (arith, length-map order (λ k. get_or (first ++ last) k 0), is.length))) in
      get_or-take (length piece) (pick_l 0 (first ++ last) order) i 0 there
      ∙ get_or-map (λ k. get_or (first ++ last) k 0) order i 0 0 (omega (arith, is.length))
      ∙ ap (λ k. get_or (first ++ last) k 0) (is.places i (omega arith))
      ∙ at-place i there)

-- ---- the bytes that fill a block

-- the greater of a byte and the greatest or the least one
under-greatest : (x : ℕ) → x < 256 → cond (ltb x 0xFF) 0xFF x ≡ 0xFF
under-greatest x small = ⊎_elim
    (λ (below : x < 0xFF). ap (λ t. cond t 0xFF x) (lt-ltb x 0xFF below))
    (λ (from : 0xFF ≤ x). ap (λ t. cond t 0xFF x) (le-ltb x 0xFF from) ∙ omega arith)
    (cases_lt x 0xFF)

over-least : (x : ℕ) → cond (ltb x 0) 0 x ≡ x
over-least x = ap (λ t. cond t 0 x) (le-ltb x 0 (omega arith))

fill : (j : ℕ) → j < 32 → get_or FILL j 0 ≡ cond (ltb j 16) 0 0xFF
fill j below = ap (λ t. get_or t j 0) parts ∙ ⊎_elim
    (λ (left : j < 16). get_or_append_left (replicate 16 0) (replicate 16 0xFF) 0 j left ∙ get_or-replicate 16 j 0 0 left ∙ sym (ap (λ t. cond t 0 0xFF) (lt-ltb j 16 left)))
    (λ (right : 16 ≤ j). get_or-append_right (replicate 16 0) (replicate 16 0xFF) 16 j 0 refl right ∙ get_or-replicate 16 (j - 16) 0xFF 0 (omega arith) ∙ sym (ap (λ t. cond t 0 0xFF) (le-ltb j 16 right)))
    (cases_lt j 16)
  where
    parts : FILL ≡ replicate 16 0 ++ replicate 16 0xFF
    parts = refl

pub filled-lanes : (len : ℕ) (block v : List ℕ) → len ≤ 16 → length block ≡ 16 → Each1 (Fits w8) block → (e : List ℕ) → ((i : ℕ) → i < 16 → slice_index e i ≡ slice_index FILL (16 - len + i))
    → HasLanes 16 v (λ i. cond (ltb (slice_index block i) (slice_index e i)) (slice_index e i) (slice_index block i))
    → HasLanes 16 v (λ i. cond (ltb i len) (slice_index block i) 0xFF)
filled-lanes len block v few long fits e from is = record {
  len = is.len;
  lanes = λ i below.
      let x = slice_index block i in
      let small : x < 256 = (Each1-get_or (Fits w8) block i 0 (omega (arith, long)) fits).fits in
      let lane = from i below ∙ fill (16 - len + i) (omega arith) in
      is.lanes i below ∙ ap (λ y. cond (ltb x y) y x) lane ∙ ⊎_elim
      (λ (front : i < len).
      let in_front : 16 - len + i < 16 = omega arith in
      ap (λ t. cond (ltb x (cond t 0 0xFF)) (cond t 0 0xFF) x) (lt-ltb (16 - len + i) 16 in_front) ∙ over-least x ∙ sym (ap (λ t. cond t x 0xFF) (lt-ltb i len front)))
      (λ (back : len ≤ i).
      let in_back : 16 ≤ 16 - len + i = omega arith in
      ap (λ t. cond (ltb x (cond t 0 0xFF)) (cond t 0 0xFF) x) (le-ltb (16 - len + i) 16 in_back) ∙ under-greatest x small ∙ sym (ap (λ t. cond t x 0xFF) (le-ltb i len back)))
      (cases_lt i len);
}

-- the bytes and those that fill the block
pub filled-whole : (piece block v : List ℕ) → length piece ≤ 16 → length block ≡ 16 → take (length piece) block ≡ piece → HasLanes 16 v (λ i. cond (ltb i (length piece)) (slice_index block i) 0xFF)
    → v ≡ piece ++ replicate (16 - length piece) 0xFF
filled-whole piece block v few long is lanes = same-by-index v (piece ++ replicate (16 - length piece) 0xFF)
    (omega (arith, lanes.len, length-append piece (replicate (16 - length piece) 0xFF), length-replicate {A = ℕ} (16 - length piece) 0xFF))
    (λ i below.
    let b : i < 16 = omega (arith, below, lanes.len) in
    lanes.lanes i b ∙ ⊎_elim
    (λ (front : i < length piece).
    ap (λ t. cond t (slice_index block i) 0xFF) (lt-ltb i (length piece) front)
    ∙ sym (get_or-take (length piece) block i 0 front) ∙ ap (λ t. get_or t i 0) is
    ∙ sym (get_or_append_left piece (replicate (16 - length piece) 0xFF) 0 i front))
    (λ (back : length piece ≤ i).
    ap (λ t. cond t (slice_index block i) 0xFF) (le-ltb i (length piece) back)
    ∙ sym (get_or-append_right piece (replicate (16 - length piece) 0xFF) (length piece) i 0 refl back ∙ get_or-replicate (16 - length piece) (i - length piece) 0xFF 0 (omega arith)))
    (cases_lt i (length piece)))

-- a block of a part of an array
pub part-index : (m n : ℕ) (xs : List ℕ) (i : ℕ) → i < 16 → i < n → slice_index (chunk 0 16 (take n (drop m xs))) i ≡ slice_index xs (m + i)
part-index m n xs i below there =
    let start : 0 + i ≡ i = omega arith in
    get_or-chunk 0 16 (take n (drop m xs)) i 0 below ∙ ap (slice_index (take n (drop m xs))) start ∙ get_or-take n (drop m xs) i 0 there ∙ get_or-drop m xs i 0

-- ---- the lanes where a unit ends are of the text

pub filled-units : (text block b2 b1 highs lows : List ℕ) → IsUtf8 text → length text ≤ 16 → block ≡ text ++ replicate (16 - length text) 0xFF → AreBefore 0 0 block b2 b1
    → HasLanes 16 highs (λ i. four_high (slice_index b2 i) (slice_index b1 i) (slice_index block i)) → HasLanes 16 lows (λ i. four_low (slice_index b2 i) (slice_index b1 i) (slice_index block i))
    → AreUnits b2 b1 block highs lows
filled-units text block b2 b1 highs lows utf8 few whole before h l i b low one = ⊎_elim
    (λ (front : i < length text).
    let here : slice_index block i ≡ slice_index text (0 + i) = ap (λ t. slice_index t i) whole ∙ get_or_append_left text fill' 0 i front ∙ ap (slice_index text) (omega arith) in
    let first : slice_index b1 i ≡ slice_index (0 ∷ text) i = before.one.lanes i b ∙ ap (λ t. slice_index (0 ∷ t) i) whole ∙ get_or_append_left (0 ∷ text) fill' 0 i (omega arith) in
    let second : slice_index b2 i ≡ slice_index (0 ∷ 0 ∷ text) i =
    before.two.lanes i b ∙ two-behind 0 0 block b1 before.one.lanes i b ∙ ap (λ t. slice_index (0 ∷ 0 ∷ t) i) whole ∙ get_or_append_left (0 ∷ 0 ∷ text) fill' 0 i (omega arith) in
    bytes-by _ _ _ _ _ (h.lanes i b) (l.lanes i b)
    (four-unit _ _ _ (same-three FollowsAny _ _ _ _ _ _ second first here (follows-any text 0 (length text) (text-follows text 0 (length text) utf8 (omega arith)) i front)) low one))
    (λ (back : length text ≤ i).
    let last : slice_index block i ≡ 0xFF = ap (λ t. slice_index t i) whole ∙ get_or-append_right text fill' (length text) i 0 refl back ∙ get_or-replicate (16 - length text) (i - length text) 0xFF 0 (omega arith) in
    absurd (omega (arith, low, last)))
    (cases_lt i (length text))
  where
    fill' : List ℕ
    fill' = replicate (16 - length text) 0xFF

-- the lanes of a text that is filled, and of the bytes before them
pub record AreBehind (text block b2 b1 b3 : List ℕ) (i : ℕ) : Type 0 where
  pub here : slice_index block i ≡ slice_index (behind 0 text) i
  pub one : slice_index b1 i ≡ slice_index (behind 1 text) i
  pub two : slice_index b2 i ≡ slice_index (behind 2 text) i
  pub three : slice_index b3 i ≡ slice_index (behind 3 text) i

pub filled-behind : (text block b2 b1 b3 : List ℕ) → block ≡ text ++ replicate (16 - length text) 0xFF → AreBefore 0 0 block b2 b1 → HasLanes 16 b3 (λ i. slice_index (0 ∷ b2) i)
    → (i : ℕ) → i < 16 → i < length text → AreBehind text block b2 b1 b3 i
filled-behind text block b2 b1 b3 whole before third i b front =
    let second = λ (j : ℕ) (few : j < 16). before.two.lanes j few ∙ two-behind 0 0 block b1 before.one.lanes j few in
    record {
      here = ap (λ t. slice_index t i) whole ∙ get_or_append_left text fill' 0 i front;
      one = before.one.lanes i b ∙ ap (λ t. slice_index (0 ∷ t) i) whole ∙ get_or_append_left (0 ∷ text) fill' 0 i (omega (arith, front));
      two = second i b ∙ ap (λ t. slice_index (0 ∷ 0 ∷ t) i) whole ∙ get_or_append_left (0 ∷ 0 ∷ text) fill' 0 i (omega (arith, front));
      three = third.lanes i b ∙ later-lanes b2 (0 ∷ 0 ∷ block) second i b ∙ ap (λ t. slice_index (0 ∷ 0 ∷ 0 ∷ t) i) whole ∙ get_or_append_left (0 ∷ 0 ∷ 0 ∷ text) fill' 0 i (omega (arith, front));
    }
  where
    fill' : List ℕ
    fill' = replicate (16 - length text) 0xFF

pub front-ascii : (block : List ℕ) (n : ℕ) → length block ≡ 16 → ((i : ℕ) → i < 16 → slice_index block i < 0x80) → IsAscii (take n block)
front-ascii block n long low = IsAscii-take block n (block-ascii block long low)
