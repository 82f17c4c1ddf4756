-- Sixteen bytes in lanes, by their places: what may follow, and which units end there.
use Rattle.std.proofs.Common.{◌≡◌, ℕ, zero, suc, ◌+◌, ◌-◌, ◌/◌, ◌%◌, ◌^◌, ◌<◌, ◌≤◌, ◌⊎◌, ⊎_elim, inl, inr, List, [], ◌∷◌, ◌++◌, drop, length, length-append, length-take-le, take, slice_index, subst, refl, sym, ap, ◌∙◌, arith}
use Rattle.std.proofs.Math.Seq.{take-length}
use Rattle.std.proofs.lemmas.Bool.{cases_lt}
use Rattle.std.proofs.lemmas.List.{get_or-append_right, get_or-drop, get_or-take, get_or_append_left, get_or_past}
use Rattle.std.proofs.lemmas.Simd.{get_or-chunk, length-chunk}
use Rattle.std.proofs.lemmas.Str.{IsUtf8-append}
use Rattle.std.specs.Simd.Lanes.{chunk}
use Rattle.std.specs.Str.{IsUtf8}
use Rattle.utf16_units.specs.Lanes.{HasLanes}
use Rattle.utf16_from_utf8.specs.Follow.{AreBelowFrom, EndsCharacter, FollowFrom, FollowTo, Follows, FollowsAtMost, FollowsTwo, LanesBehind, behind, limit_of}
use Rattle.utf16_from_utf8.specs.UnitLanes.{HoldUnits, IsUnit}
use Rattle.utf16_from_utf8.proofs.FollowLemmas.{At, apart, behind-at, behind-take, follows-any, follows-at, same-three}
use Rattle.utf16_from_utf8.proofs.LimitLemmas.{limit-some}
use Rattle.utf16_from_utf8.proofs.UsedLemmas.{front-utf8}
use Rattle.utf16_from_utf8.proofs.WellFormedLemmas.{one-utf8, text-follows}

-- ---- limits

pub below-behind : (d : ℕ) (bytes : List ℕ) (i from limit : ℕ) → 0 < limit → from ≤ i - d → AreBelowFrom bytes from limit → slice_index (behind d bytes) i < limit
below-behind zero bytes i from limit some after below = below i (omega (arith, after))
below-behind (suc d) bytes zero from limit some after below = some
below-behind (suc d) bytes (suc i) from limit some after below = below-behind d bytes i from limit some (omega (arith, after)) below

pub below-later : (bytes : List ℕ) (from later limit : ℕ) → from ≤ later → AreBelowFrom bytes from limit → AreBelowFrom bytes later limit
below-later bytes from later limit after below i le = below i (omega (arith, after, le))

-- the bytes before `k` and the last sixteen are all bytes, if no more than sixteen are left
pub below-all : (bytes : List ℕ) (at k limit : ℕ) → length bytes - k ≤ 16 → ((j : ℕ) → at - 18 ≤ j → (j < k) ⊎ (length bytes - 16 ≤ j) → slice_index bytes j < limit) → AreBelowFrom bytes (at - 18) limit
below-all bytes at k limit few each j after = ⊎_elim
    (λ (a : j < k). each j (omega (arith, after)) (inl a))
    (λ (a : k ≤ j). each j (omega (arith, after)) (inr (omega (arith, a, few))))
    (cases_lt j k)

pub below-last : (bytes : List ℕ) (limit : ℕ) → 0 < limit → 16 ≤ length bytes → ((i : ℕ) → i < 16 → slice_index (chunk (length bytes - 16) 16 bytes) i < limit)
    → (j : ℕ) → length bytes - 16 ≤ j → slice_index bytes j < limit
below-last bytes limit some many lanes j after = ⊎_elim
    (λ (a : j < length bytes).
    let i = j - (length bytes - 16) in
    let few : i < 16 = omega (arith, a, after, many) in
    omega (arith, lanes i few, get_or-chunk (length bytes - 16) 16 bytes i 0 few, ap (slice_index bytes) (there i after)))
    (λ (a : length bytes ≤ j). omega (arith, get_or_past bytes j 0 a, some))
    (cases_lt j (length bytes))
  where
    there : (i : ℕ) → length bytes - 16 ≤ j → length bytes - 16 + (j - (length bytes - 16)) ≡ j
    there i le = omega (arith, le)

pub below-next : (bytes : List ℕ) (k limit : ℕ) → ((i : ℕ) → i < 16 → slice_index (chunk k 16 bytes) i < limit) → (j : ℕ) → k ≤ j → j < k + 16 → slice_index bytes j < limit
below-next bytes k limit lanes j after before =
    let i = j - k in
    let few : i < 16 = omega (arith, after, before) in
    let there : k + (j - k) ≡ j = omega (arith, after) in
    omega (arith, lanes i few, get_or-chunk k 16 bytes i 0 few, ap (slice_index bytes) there)

-- ---- the byte before others

pub behind-zero : (d : ℕ) (bytes : List ℕ) (i : ℕ) → i < d → ◌≡◌ {A = ℕ} 0 (slice_index (behind d bytes) i)
behind-zero zero bytes i few = absurd (omega (arith, few))
behind-zero (suc d) bytes zero few = refl
behind-zero (suc d) bytes (suc i) few = behind-zero d bytes i (omega (arith, few))

pub lanes-behind : (d at : ℕ) (bytes v : List ℕ) (x : ℕ) → x ≡ slice_index (behind (suc d) bytes) at → ((i : ℕ) → i < 16 → slice_index v i ≡ slice_index (behind d bytes) (at + i))
    → (i : ℕ) → i < 16 → slice_index (x ∷ v) i ≡ slice_index (behind (suc d) bytes) (at + i)
lanes-behind d at bytes v x is lanes zero few = is ∙ ap (slice_index (behind (suc d) bytes)) here where
  here : at ≡ at + 0
  here = omega arith
lanes-behind d at bytes v x is lanes (suc i) few = lanes i (omega (arith, few)) ∙ ap (slice_index (behind (suc d) bytes)) next where
  next : suc (at + i) ≡ at + suc i
  next = omega arith

pub chunk-behind : (d : ℕ) (bytes : List ℕ) (at : ℕ) → d ≤ at → at + 16 ≤ length bytes → LanesBehind d bytes at (chunk (at - d) 16 bytes)
chunk-behind d bytes at some more = record {
  len = length-chunk (at - d) 16 bytes (omega (arith, some, more));
  lanes = λ i few.
      let place : at - d + i ≡ 0 + (at + i) - d = omega (arith, some) in
      get_or-chunk (at - d) 16 bytes i 0 few ∙ ap (slice_index bytes) place ∙ sym (behind-at d bytes 0 (at + i) (omega (arith, some)));
}

pub previous-behind : (d at : ℕ) (bytes v w : List ℕ) (x : ℕ) → x ≡ slice_index (behind (suc d) bytes) at → ((i : ℕ) → i < 16 → slice_index v i ≡ slice_index (behind d bytes) (at + i))
    → HasLanes 16 w (λ i. slice_index (x ∷ v) i) → LanesBehind (suc d) bytes at w
previous-behind d at bytes v w x is lanes before = record { len = before.len; lanes = λ i few. before.lanes i few ∙ lanes-behind d at bytes v x is lanes i few }

-- ---- what may follow

-- ASCII may follow ASCII
pub follows-ascii : (b3 b2 b1 b0 : ℕ) → b3 < 0x80 → b2 < 0x80 → b1 < 0x80 → b0 < 0x80 → Follows b3 b2 b1 b0
follows-ascii b3 b2 b1 b0 p q r s = record {
  continues = (
    (λ is. ⊎_elim
        (λ (a : 0xC0 ≤ b1). absurd (omega (arith, a, r)))
        (λ more. ⊎_elim (λ (a : 0xE0 ≤ b2). absurd (omega (arith, a, q))) (λ (a : 0xF0 ≤ b3). absurd (omega (arith, a, p))) more)
        is),
    (λ cont. absurd (omega (arith, cont.0, s))),
  );
  begins = inl (omega (arith, s));
  after_E0 = λ is. absurd (omega (arith, is, r));
  after_ED = λ is. absurd (omega (arith, is, r));
  after_F0 = λ is. absurd (omega (arith, is, r));
  after_F4 = λ is. absurd (omega (arith, is, r));
}

-- sixteen bytes more, some of which came before
pub follow-more-from : (bytes : List ℕ) (at from : ℕ) → at ≤ from → FollowTo from bytes 0 → FollowFrom bytes at → FollowTo (at + 16) bytes 0
follow-more-from bytes at from after done next i below = ⊎_elim
    (λ (a : i < from). done i a)
    (λ (a : from ≤ i).
    let j = i - at in
    let there : i ≡ at + j = omega (arith, a, after) in
    let place : 0 + i ≡ at + j = omega (arith, there) in
    follows-at _ _ _ _ _ _ _ _ (ap (slice_index (behind 3 bytes)) there) (ap (slice_index (behind 2 bytes)) there) (ap (slice_index (behind 1 bytes)) there) (ap (slice_index bytes) place)
    (next j (omega (arith, below, a, after))))
    (cases_lt i from)

pub follow-from : (bytes : List ℕ) (at : ℕ) → FollowTo (at + 16) bytes 0 → FollowFrom bytes at
follow-from bytes at all i few =
    let here : at + i ≡ 0 + (at + i) = omega arith in
    follows-at _ _ _ _ _ _ _ _ refl refl refl (ap (slice_index bytes) here) (all (at + i) (omega (arith, few)))

-- a text, and bytes that may follow it
pub begun-follow : (bytes : List ℕ) (n : ℕ) → n ≤ length bytes → IsUtf8 (take n bytes) → FollowTo n bytes 0
begun-follow bytes n within utf8 i below =
    let here : 0 + i < n = omega (arith, below) in
    follows-at _ _ _ _ _ _ _ _
    (sym (behind-take 3 n bytes 0 i below)) (sym (behind-take 2 n bytes 0 i below)) (sym (behind-take 1 n bytes 0 i below)) (sym (get_or-take n bytes (0 + i) 0 here))
    (text-follows (take n bytes) 0 n utf8 (omega (arith, length-take-le n bytes within)) i below)

pub whole-utf8 : (bytes : List ℕ) → 3 ≤ length bytes → FollowTo (length bytes) bytes 0
    → EndsCharacter bytes → IsUtf8 bytes
whole-utf8 bytes some all ends =
    subst IsUtf8 (take-length bytes)
    (front-utf8 bytes 0 (length bytes) (omega arith) all some
    (omega (arith, ends.0, ap (slice_index bytes) (place 1))) (omega (arith, ends.1, ap (slice_index bytes) (place 2))) (omega (arith, ends.2, ap (slice_index bytes) (place 3))))
  where
    place : (d : ℕ) → 0 + length bytes - d ≡ length bytes - d
    place d = omega arith

-- a text ends with a character: ASCII may follow it
pub text-ends : (bytes : List ℕ) → 3 ≤ length bytes → IsUtf8 bytes → EndsCharacter bytes
text-ends bytes some utf8 = (
  ⊎_elim (λ a. a) (λ (a : 0xC0 ≤ slice_index bytes (n - 1)). absurd (none (inl (omega (arith, a, before 1 (omega arith) (omega arith)))))) (cases_lt (slice_index bytes (n - 1)) 0xC0),
  ⊎_elim (λ a. a) (λ (a : 0xE0 ≤ slice_index bytes (n - 2)). absurd (none (inr (inl (omega (arith, a, before 2 (omega arith) (omega arith))))))) (cases_lt (slice_index bytes (n - 2)) 0xE0),
  ⊎_elim (λ a. a) (λ (a : 0xF0 ≤ slice_index bytes (n - 3)). absurd (none (inr (inr (omega (arith, a, before 3 (omega arith) (omega arith))))))) (cases_lt (slice_index bytes (n - 3)) 0xF0),
)
  where
    n : ℕ
    n = length bytes

    letter : List ℕ
    letter = 0x41 ∷ []

    more : List ℕ
    more = bytes ++ letter

    long : length more ≡ n + 1
    long = length-append bytes letter

    follows : Follows (slice_index (behind 3 more) n) (slice_index (behind 2 more) n) (slice_index (behind 1 more) n) (slice_index more (0 + n))
    follows = text-follows more 0 (length more) (IsUtf8-append bytes letter utf8 (one-utf8 0x41 (omega arith))) (omega arith) n (omega (arith, long))

    last : slice_index more (0 + n) ≡ 0x41
    last =
        let first : 0 + n - n ≡ 0 = omega arith in
        get_or-append_right bytes letter n (0 + n) 0 refl (omega arith) ∙ ap (slice_index letter) first

    before : (d : ℕ) → 1 ≤ d → d ≤ 3 → slice_index (behind d more) n ≡ slice_index bytes (n - d)
    before d one most =
        let place : 0 + n - d ≡ n - d = omega arith in
        behind-at d more 0 n (omega (arith, most, some)) ∙ ap (slice_index more) place ∙ get_or_append_left bytes letter 0 (n - d) (omega (arith, one, most, some))

    none : (0xC0 ≤ slice_index (behind 1 more) n) ⊎ (0xE0 ≤ slice_index (behind 2 more) n) ⊎ (0xF0 ≤ slice_index (behind 3 more) n) → ⊥
    none begun = omega (arith, (follows.continues.0 begun).0, last)

-- ---- characters of at most three bytes

pub follows-two-from : (bytes : List ℕ) (limit n i : ℕ) → 0 < limit → limit ≤ 0xF0 → i < n → AreBelowFrom bytes (i - 3) limit → FollowTo n bytes 0 → At (FollowsTwo limit) bytes 0 i
follows-two-from bytes limit n i some most within below all =
    let here = all i within in
    let three : slice_index (behind 3 bytes) i < limit = below-behind 3 bytes i (i - 3) limit some (omega arith) below in
    record {
      continues = (
        (λ is. ⊎_elim (λ a. here.continues.0 (inl a)) (λ a. here.continues.0 (inr (inl a))) is),
        (λ cont. ⊎_elim
            (λ (a : 0xC0 ≤ slice_index (behind 1 bytes) i). inl a)
            (λ more. ⊎_elim
            (λ (a : 0xE0 ≤ slice_index (behind 2 bytes) i). inr a)
            (λ (a : 0xF0 ≤ slice_index (behind 3 bytes) i). absurd (omega (arith, a, most, three)))
            more)
            (here.continues.1 cont)),
      );
      apart = apart bytes 0 n i within all;
      two = below-behind 2 bytes i (i - 3) limit some (omega arith) below;
      one = below-behind 1 bytes i (i - 3) limit some (omega arith) below;
    }

pub follows-at-most : (bytes : List ℕ) (most n i : ℕ) → i < n → AreBelowFrom bytes (i - 3) (limit_of most) → FollowTo n bytes 0
    → FollowsAtMost most (slice_index (behind 2 bytes) i) (slice_index (behind 1 bytes) i) (slice_index bytes (0 + i))
follows-at-most bytes most n i within below all = (λ small. follows-two-from bytes (limit_of most) n i (limit-some most) small within below all, follows-any bytes 0 n all i within)

-- ---- the units of lanes, by the places of the bytes

pub hold-same : (most : ℕ) (b2 b1 b0 c2 c1 c0 highs lows : List ℕ) (ended : ℕ) → ((i : ℕ) → i < 16 → slice_index b2 i ≡ slice_index c2 i) → ((i : ℕ) → i < 16 → slice_index b1 i ≡ slice_index c1 i)
    → ((i : ℕ) → i < 16 → slice_index b0 i ≡ slice_index c0 i) → HoldUnits most b2 b1 b0 highs lows ended → HoldUnits most c2 c1 c0 highs lows ended
hold-same most b2 b1 b0 c2 c1 c0 highs lows ended two one here hold = record {
  high_len = hold.high_len;
  low_len = hold.low_len;
  bound = hold.bound;
  each = λ i few follows.
      same-three (λ x y z. IsUnit x y z (ended / 2 ^ i % 2) (slice_index highs i) (slice_index lows i)) _ _ _ _ _ _ (sym (two i few)) (sym (one i few)) (sym (here i few))
      (hold.each i few (same-three (FollowsAtMost most) _ _ _ _ _ _ (two i few) (one i few) (here i few) follows));
}

-- the bytes from a place on in lanes
pub behind-drop : (d at : ℕ) (bytes v : List ℕ) → LanesBehind d bytes at v → (i : ℕ) → i < 16 → slice_index v i ≡ slice_index (drop at (behind d bytes)) i
behind-drop d at bytes v lanes i few = lanes.lanes i few ∙ sym (get_or-drop at (behind d bytes) i 0)

pub chunk-drop : (at : ℕ) (bytes : List ℕ) (i : ℕ) → i < 16 → slice_index (chunk at 16 bytes) i ≡ slice_index (drop at bytes) i
chunk-drop at bytes i few = get_or-chunk at 16 bytes i 0 few ∙ sym (get_or-drop at bytes i 0)

-- sixteen bytes and the three before them, if all are ASCII
pub ascii-from : (bytes b3 : List ℕ) (at : ℕ) → LanesBehind 3 bytes at b3 → ((i : ℕ) → i < 16 → slice_index b3 i < 0x80) → ((i : ℕ) → i < 16 → slice_index (chunk at 16 bytes) i < 0x80) → FollowFrom bytes at
ascii-from bytes b3 at lanes before block i few = follows-ascii _ _ _ _
    (omega (arith, low i (omega (arith, few))))
    (omega (arith, low (i + 1) (omega (arith, few)), ap (slice_index (behind 3 bytes)) one))
    (omega (arith, low (i + 2) (omega (arith, few)), ap (slice_index (behind 3 bytes)) two))
    (omega (arith, low (i + 3) (omega (arith, few)), ap (slice_index (behind 3 bytes)) three))
  where
    one : at + (i + 1) ≡ suc (at + i)
    one = omega arith

    two : at + (i + 2) ≡ suc (suc (at + i))
    two = omega arith

    three : at + (i + 3) ≡ suc (suc (suc (at + i)))
    three = omega arith

    low : (j : ℕ) → j < 19 → slice_index (behind 3 bytes) (at + j) < 0x80
    low j below = ⊎_elim
        (λ (a : j < 16). omega (arith, before j a, lanes.lanes j a))
        (λ (a : 16 ≤ j).
        let k = j - 3 in
        let small : k < 16 = omega (arith, below) in
        let place : 0 + (at + j) - 3 ≡ at + k = omega (arith, a) in
        omega (arith, block k small, get_or-chunk at 16 bytes k 0 small, behind-at 3 bytes 0 (at + j) (omega (arith, a)), ap (slice_index bytes) place))
        (cases_lt j 16)
