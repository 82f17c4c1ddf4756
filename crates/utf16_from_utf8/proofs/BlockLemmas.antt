-- What the lanes of a block hold is what its bytes add.
use Rattle.std.proofs.Common.{replicate, ◌≡◌, ℕ, zero, suc, ◌+◌, ◌*◌, ◌/◌, ◌%◌, ◌^◌, ◌<◌, ◌≤◌, ◌&&◌, ◌==◌, Bool, true, false, cond, ltb, List, [], ◌∷◌, ◌++◌, length, length-drop, drop, take, take-append-drop, take_all, slice_index, append_assoc, bit_and, refl, sym, ap, ap₂, ◌∙◌, ⊎_elim, length-take-le, arith, append-nil, flat_map, lt-ltb, le-ltb, length-append}
use Rattle.std.proofs.lemmas.Bool.{cases_lt}
use Rattle.std.proofs.lemmas.Nat.Bits.{and_high}
use Rattle.std.proofs.lemmas.Simd.{length-put_chunk, take_more_put_chunk}
use Rattle.std.proofs.Math.Nat.{div-div-eq-div-mul, two-pow-succ}
use lib.Lanes.{chunk, put_chunk}
use Rattle.utf16_units.specs.Unit.{unit_bytes}
use Rattle.utf16_from_utf8.specs.Added.{added_bytes, ends_unit, unit_after}
use Rattle.utf16_from_utf8.specs.Follow.{AreBefore, FollowsAtMost}
use Rattle.utf16_from_utf8.specs.Lanes.{kept_pairs, pair_bytes, pairs_of}
use Rattle.utf16_from_utf8.specs.UnitLanes.{AreBytes, HoldUnits, short_low, three_high}
use Rattle.utf16_from_utf8.proofs.AddedLemmas.{added_bytes-cons, added_bytes-nil, adds-none-behind, adds-none-first, adds-one, byte_adds, unit-three}
use Rattle.utf16_from_utf8.proofs.LaneByteLemmas.{pair-unit, three-bytes}

-- ---- one byte

pub added_bytes-one : (big : Bool) (b2 b1 b0 : ℕ) → added_bytes big b2 b1 (b0 ∷ []) ≡ byte_adds big b2 b1 b0
added_bytes-one big b2 b1 b0 =
    added_bytes-cons big b2 b1 b0 [] ∙ ap (λ t. byte_adds big b2 b1 b0 ++ t) (added_bytes-nil big b1 b0) ∙ append-nil (byte_adds big b2 b1 b0)

pub byte-adds-one : (big : Bool) (b2 b1 b0 : ℕ) → b0 < 0xC0 → b1 < 0xE0 → byte_adds big b2 b1 b0 ≡ unit_bytes big (unit_after b2 b1 b0)
byte-adds-one big b2 b1 b0 a b = ap (flat_map (unit_bytes big)) (adds-one b2 b1 b0 a b) ∙ append-nil (unit_bytes big (unit_after b2 b1 b0))

pub byte-adds-first : (big : Bool) (b2 b1 b0 : ℕ) → 0xC0 ≤ b0 → byte_adds big b2 b1 b0 ≡ []
byte-adds-first big b2 b1 b0 a = ap (flat_map (unit_bytes big)) (adds-none-first b2 b1 b0 a)

pub byte-adds-behind : (big : Bool) (b2 b1 b0 : ℕ) → 0xE0 ≤ b1 → byte_adds big b2 b1 b0 ≡ []
byte-adds-behind big b2 b1 b0 a = ap (flat_map (unit_bytes big)) (adds-none-behind b2 b1 b0 a)

-- ---- any bytes

pub kept-first : (big : Bool) (bits high low : ℕ) (pairs : List ℕ)
    → kept_pairs bits (pair_bytes big high low ++ pairs) ≡ cond (bits % 2 == 1) (pair_bytes big high low) [] ++ kept_pairs (bits / 2) pairs
kept-first true bits high low pairs = refl
kept-first false bits high low pairs = refl

-- a pair is kept exactly if a unit ends, and then it is that unit
pub unit-added : (big : Bool) (b2 b1 b0 bit high low : ℕ) → ◌≡◌ {A = ℕ} bit (cond (ends_unit b1 b0) 1 0) → (b0 < 0xC0 → b1 < 0xE0 → AreBytes (unit_after b2 b1 b0) high low)
    → cond (bit == 1) (pair_bytes big high low) [] ≡ byte_adds big b2 b1 b0
unit-added big b2 b1 b0 bit high low is are = ⊎_elim
    (λ (a : b0 < 0xC0). ⊎_elim
    (λ (b : b1 < 0xE0).
    let one : bit ≡ 1 = is ∙ ap₂ (λ (x y : Bool). cond (x && y) 1 0) (lt-ltb b0 0xC0 a) (lt-ltb b1 0xE0 b) in
    ap (λ n. cond (n == 1) (pair_bytes big high low) []) one ∙ pair-unit big (unit_after b2 b1 b0) high low (are a b) ∙ sym (byte-adds-one big b2 b1 b0 a b))
    (λ (b : 0xE0 ≤ b1).
    let none : bit ≡ 0 = is ∙ ap₂ (λ (x y : Bool). cond (x && y) 1 0) (lt-ltb b0 0xC0 a) (le-ltb b1 0xE0 b) in
    ap (λ n. cond (n == 1) (pair_bytes big high low) []) none ∙ sym (byte-adds-behind big b2 b1 b0 b))
    (cases_lt b1 0xE0))
    (λ (a : 0xC0 ≤ b0).
    let none : bit ≡ 0 = is ∙ ap (λ (x : Bool). cond (x && ltb b1 0xE0) 1 0) (le-ltb b0 0xC0 a) in
    ap (λ n. cond (n == 1) (pair_bytes big high low) []) none ∙ sym (byte-adds-first big b2 b1 b0 a))
    (cases_lt b0 0xC0)

-- each of the pairs is kept exactly if its byte adds a unit, and a pair that is kept is that unit
pub record AreAdded (big : Bool) (b2 b1 : ℕ) (block highs lows : List ℕ) (bits : ℕ) : Type 0 where
  pub high_len : length highs ≡ length block
  pub low_len : length lows ≡ length block
  pub each : (i : ℕ) → i < length block
      → cond (bits / 2 ^ i % 2 == 1) (pair_bytes big (slice_index highs i) (slice_index lows i)) [] ≡ byte_adds big (slice_index (b2 ∷ b1 ∷ block) i) (slice_index (b1 ∷ block) i) (slice_index block i)

-- a bit of the rest
later : (bits i : ℕ) → bits / 2 / 2 ^ i % 2 ≡ bits / 2 ^ suc i % 2
later bits i = ap (λ n. n % 2) (div-div-eq-div-mul bits 2 (2 ^ i) ∙ ap (λ n. bits / n) (omega (arith, two-pow-succ i)))

pub kept-added : (big : Bool) (b2 b1 : ℕ) (block highs lows : List ℕ) (bits : ℕ) → AreAdded big b2 b1 block highs lows bits
    → kept_pairs bits (pairs_of big highs lows) ≡ added_bytes big b2 b1 block
kept-added big b2 b1 [] [] lows bits are = sym (added_bytes-nil big b2 b1)
kept-added big b2 b1 [] (h ∷ highs) lows bits are = absurd (omega (arith, are.high_len))
kept-added big b2 b1 (b0 ∷ block) [] lows bits are = absurd (omega (arith, are.high_len))
kept-added big b2 b1 (b0 ∷ block) (h ∷ highs) [] bits are = absurd (omega (arith, are.low_len))
kept-added big b2 b1 (b0 ∷ block) (h ∷ highs) (l ∷ lows) bits are =
    let first : bits % 2 ≡ bits / 1 % 2 = omega arith in
    let rest : AreAdded big b1 b0 block highs lows (bits / 2) = record {
      high_len = omega (arith, are.high_len);
      low_len = omega (arith, are.low_len);
      each = λ i below. ap (λ n. cond (n == 1) (pair_bytes big (slice_index highs i) (slice_index lows i)) []) (later bits i) ∙ are.each (suc i) (omega (arith, below));
    } in
    kept-first big bits h l (pairs_of big highs lows)
    ∙ ap₂ (λ x y. x ++ y) (ap (λ n. cond (n == 1) (pair_bytes big h l) []) first ∙ are.each 0 (omega arith)) (kept-added big b1 b0 block highs lows (bits / 2) rest)
    ∙ sym (added_bytes-cons big b2 b1 b0 block)

-- two bytes before each one
pub two-behind : (b2 b1 : ℕ) (block v : List ℕ) → ((i : ℕ) → i < 16 → slice_index v i ≡ slice_index (b1 ∷ block) i)
    → (i : ℕ) → i < 16 → slice_index (b2 ∷ v) i ≡ slice_index (b2 ∷ b1 ∷ block) i
two-behind b2 b1 block v is zero below = refl
two-behind b2 b1 block v is (suc i) below = is i (omega arith)

-- ---- a character of three bytes

pub three-added : (big : Bool) (b2 b1 x y z : ℕ) (more : List ℕ) → x < 256 → y < 256 → z < 256 → bit_and x 0xF0 ≡ 0xE0 → bit_and y 0xC0 ≡ 0x80 → bit_and z 0xC0 ≡ 0x80
    → added_bytes big b2 b1 (x ∷ y ∷ z ∷ more) ≡ pair_bytes big (three_high x y) (short_low y z) ++ added_bytes big y z more
three-added big b2 b1 x y z more p q r e f g =
    let one : bit_and x 0xF0 ≡ x / 16 % 16 * 16 = and_high x 4 4 in
    let two : bit_and y 0xC0 ≡ y / 64 % 4 * 64 = and_high y 2 6 in
    let three : bit_and z 0xC0 ≡ z / 64 % 4 * 64 = and_high z 2 6 in
    let from : 0xE0 ≤ x = omega (arith, one) in
    let to : x < 0xF0 = omega (arith, one) in
    let inner : y < 0xC0 = omega (arith, two) in
    let last : z < 0xC0 = omega (arith, three) in
    let many : 0x80 ≤ z = omega (arith, three) in
    let unit = unit-three x y z many inner from to in
    added_bytes-cons big b2 b1 x (y ∷ z ∷ more)
    ∙ ap₂ (λ s t. s ++ t) (byte-adds-first big b2 b1 x (omega arith)) (added_bytes-cons big b1 x y (z ∷ more))
    ∙ ap₂ (λ s t. s ++ t) (byte-adds-behind big b1 x y from) (added_bytes-cons big x y z more)
    ∙ ap (λ s. s ++ added_bytes big y z more)
    (byte-adds-one big x y z last (omega arith) ∙ ap (unit_bytes big) unit ∙ sym (pair-unit big (x % 16 * 4096 + (y % 64 * 64 + z % 64)) (three_high x y) (short_low y z) (three-bytes x y z)))

-- ---- a block's lanes, from the vectors that they were computed from

-- where a unit ends, the lanes are its bytes
abbrev pub AreUnits : List ℕ → List ℕ → List ℕ → List ℕ → List ℕ → Type 0
AreUnits b2 b1 block highs lows = (i : ℕ) → i < 16 → slice_index block i < 0xC0 → slice_index b1 i < 0xE0
    → AreBytes (unit_after (slice_index b2 i) (slice_index b1 i) (slice_index block i)) (slice_index highs i) (slice_index lows i)

pub block-added : (big : Bool) (before2 before1 : ℕ) (block b2 b1 highs lows : List ℕ) (bits : ℕ) → AreBefore before2 before1 block b2 b1 → length block ≡ 16 → length highs ≡ 16 → length lows ≡ 16
    → ((i : ℕ) → i < 16 → ◌≡◌ {A = ℕ} (bits / 2 ^ i % 2) (cond (ends_unit (slice_index b1 i) (slice_index block i)) 1 0)) → AreUnits b2 b1 block highs lows
    → kept_pairs bits (pairs_of big highs lows) ≡ added_bytes big before2 before1 block
block-added big before2 before1 block b2 b1 highs lows bits before long high_long low_long ended are = kept-added big before2 before1 block highs lows bits (record {
  high_len = high_long ∙ sym long;
  low_len = low_long ∙ sym long;
  each = λ i within.
      let b : i < 16 = omega (arith, within, long) in
      unit-added big _ _ _ _ _ _ (ended i b) (are i b)
      ∙ ap₂ (λ x y. byte_adds big x y (slice_index block i)) (before.two.lanes i b ∙ two-behind before2 before1 block b1 before.one.lanes i b) (before.one.lanes i b);
})

-- the units that the lanes hold are what the bytes add
pub hold-added : (big : Bool) (most before2 before1 : ℕ) (block b2 b1 highs lows : List ℕ) (ended : ℕ) → AreBefore before2 before1 block b2 b1 → length block ≡ 16
    → HoldUnits most b2 b1 block highs lows ended → ((i : ℕ) → i < 16 → FollowsAtMost most (slice_index b2 i) (slice_index b1 i) (slice_index block i))
    → kept_pairs (ended / 2 ^ 0 * 2 ^ 0) (pairs_of big highs lows) ≡ added_bytes big before2 before1 block
hold-added big most before2 before1 block b2 b1 highs lows ended before long hold follows =
    let all : ended / 2 ^ 0 * 2 ^ 0 ≡ ended = omega arith in
    ap (λ n. kept_pairs n (pairs_of big highs lows)) all
    ∙ kept-added big before2 before1 block highs lows ended (record {
      high_len = hold.high_len ∙ sym long;
      low_len = hold.low_len ∙ sym long;
      each = λ i within.
          let b : i < 16 = omega (arith, within, long) in
          let unit = hold.each i b (follows i b) in
          unit-added big _ _ _ _ _ _ unit.ends unit.bytes
          ∙ ap₂ (λ x y. byte_adds big x y (slice_index block i)) (before.two.lanes i b ∙ two-behind before2 before1 block b1 before.one.lanes i b) (before.one.lanes i b);
    })

-- ---- two vectors stored

pub halves : (v : List ℕ) → length v ≡ 32 → v ≡ chunk 0 16 v ++ chunk 16 16 v
halves v long = sym (take-append-drop 16 v) ∙ ap (λ t. take 16 v ++ t) (sym (take_all 16 (drop 16 v) (omega (arith, length-drop 16 v, long))))

pub both_stored : (at : ℕ) (first second out : List ℕ) → length first ≡ 16 → length second ≡ 16 → at + 32 ≤ length out
    → take (at + 32) (put_chunk (at + 16) (put_chunk at out first) second) ≡ take at out ++ (first ++ second)
both_stored at first second out a b room =
    take_more_put_chunk (at + 16) (put_chunk at out first) second (at + 32) (omega (arith, b)) (omega (arith, length-put_chunk at out first))
    ∙ ap (λ t. t ++ second) (take_more_put_chunk at out first (at + 16) (omega (arith, a)) (omega arith))
    ∙ append_assoc (take at out) first second

pub unit-two : (big : Bool) (unit : ℕ) → length (unit_bytes big unit) ≡ 2
unit-two true unit = refl
unit-two false unit = refl

byte-short : (big : Bool) (b2 b1 b0 : ℕ) → length (byte_adds big b2 b1 b0) ≤ 2
byte-short big b2 b1 b0 = ⊎_elim
    (λ (a : b0 < 0xC0). ⊎_elim
    (λ (b : b1 < 0xE0). let two : length (byte_adds big b2 b1 b0) ≡ 2 = ap length (byte-adds-one big b2 b1 b0 a b) ∙ unit-two big (unit_after b2 b1 b0) in omega (arith, two))
    (λ (b : 0xE0 ≤ b1). let none : length (byte_adds big b2 b1 b0) ≡ 0 = ap length (byte-adds-behind big b2 b1 b0 b) in omega (arith, none))
    (cases_lt b1 0xE0))
    (λ (a : 0xC0 ≤ b0). let none : length (byte_adds big b2 b1 b0) ≡ 0 = ap length (byte-adds-first big b2 b1 b0 a) in omega (arith, none))
    (cases_lt b0 0xC0)

-- each byte adds at most one unit
pub added-short : (big : Bool) (b2 b1 : ℕ) (bytes : List ℕ) → length (added_bytes big b2 b1 bytes) ≤ 2 * length bytes
added-short big b2 b1 [] = let none : length (added_bytes big b2 b1 []) ≡ 0 = ap length (added_bytes-nil big b2 b1) in omega (arith, none)
added-short big b2 b1 (b0 ∷ bytes) =
    let both = ap length (added_bytes-cons big b2 b1 b0 bytes) ∙ length-append (byte_adds big b2 b1 b0) (added_bytes big b1 b0 bytes) in
    omega (arith, both, byte-short big b2 b1 b0, added-short big b1 b0 bytes)

-- what was written is no longer than two bytes for each that was added
pub added-bound : (big : Bool) (b2 b1 : ℕ) (out out' bytes : List ℕ) (end end' : ℕ) → end ≤ length out → end' ≤ length out' → take end' out' ≡ take end out ++ added_bytes big b2 b1 bytes
    → end' ≤ end + 2 * length bytes
added-bound big b2 b1 out out' bytes end end' old new wrote =
    let added = added_bytes big b2 b1 bytes in
    omega (arith, ap length wrote ∙ length-append (take end out) added, added-short big b2 b1 bytes, length-take-le end' out' new, length-take-le end out old)

-- ---- a last block, filled

-- bytes that do not end a unit add nothing
pub added-filled : (big : Bool) (b2 b1 : ℕ) (bytes : List ℕ) (k : ℕ) → added_bytes big b2 b1 (bytes ++ replicate k 0xFF) ≡ added_bytes big b2 b1 bytes
added-filled big b2 b1 [] zero = refl
added-filled big b2 b1 [] (suc k) =
    added_bytes-cons big b2 b1 0xFF (replicate k 0xFF)
    ∙ ap₂ (λ s t. s ++ t) (byte-adds-first big b2 b1 0xFF (omega arith)) (added-filled big b1 0xFF [] k ∙ added_bytes-nil big b1 0xFF)
    ∙ sym (added_bytes-nil big b2 b1)
added-filled big b2 b1 (b0 ∷ bytes) k =
    added_bytes-cons big b2 b1 b0 (bytes ++ replicate k 0xFF)
    ∙ ap (λ t. byte_adds big b2 b1 b0 ++ t) (added-filled big b1 b0 bytes k)
    ∙ sym (added_bytes-cons big b2 b1 b0 bytes)
