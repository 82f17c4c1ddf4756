-- The rest of a text, sixteen bytes at a time, and its last bytes as the end of a block.
use borrow.Rule.Slice.PartMut.{put_mid}
use Rattle.std.proofs.Common.{◌≡◌, ℕ, zero, suc, ◌+◌, ◌-◌, ◌*◌, ◌/◌, ◌%◌, ◌^◌, ◌<◌, ◌≤◌, ◌==◌, ◌↔◌, Bool, true, false, cond, List, [], ◌∷◌, ◌++◌, append-nil, append_assoc, length, length-append, length-drop, length-take-le, take, drop, slice_index, refl, sym, ap, ap₂, ◌∙◌, arith}
use Rattle.std.proofs.Math.Nat.{div-div-eq-div-mul}
use Rattle.std.proofs.Math.Seq.{take-add, take-append-add, take-length}
use Rattle.std.proofs.lemmas.List.{get_or-drop, get_or-take, take-append-le, take-take}
use Rattle.std.proofs.lemmas.Nat.{pow-add}
use Rattle.std.specs.Str.{IsUtf8, chars}
use Rattle.utf16_units.specs.Encoding.{encode}
use Rattle.utf16_from_utf8.specs.Added.{added_bytes}
use Rattle.utf16_from_utf8.specs.Follow.{AreBelowFrom, FollowFrom, FollowTo, FollowsAtMost, behind, limit_of}
use Rattle.utf16_from_utf8.specs.Lanes.{kept_pairs, pair_bytes, pairs_of}
use Rattle.utf16_from_utf8.specs.Rest.{IsRestWritten, IsTried}
use Rattle.utf16_from_utf8.specs.UnitLanes.{HoldUnits}
use Rattle.utf16_from_utf8.specs.Written.{IsWritten}
use Rattle.utf16_from_utf8.proofs.AddedLemmas.{added_bytes-append, added_bytes-nil, byte_adds, last_but_one, last_but_one-get, last_of, last_of-get}
use Rattle.utf16_from_utf8.proofs.BlockLemmas.{kept-added, unit-added}
use Rattle.utf16_from_utf8.proofs.FollowLemmas.{same-three}
use Rattle.utf16_from_utf8.proofs.LaneByteLemmas.{bytes-by}
use Rattle.utf16_from_utf8.proofs.PackLemmas.{kept-skip}
use Rattle.utf16_from_utf8.proofs.ReadLemmas.{begun-follow, below-later, follow-from, follow-more-from, follows-at-most}
use Rattle.utf16_from_utf8.proofs.TextLemmas.{added_bytes-text}

-- ---- what the bytes after some others add

added-behind : (big : Bool) (text more : List ℕ) (read : ℕ) → read ≤ length text
    → added_bytes big 0 0 (take read text ++ more) ≡ added_bytes big 0 0 (take read text) ++ added_bytes big (slice_index (behind 2 text) read) (slice_index (behind 1 text) read) more
added-behind big text more zero within = ap (λ t. t ++ added_bytes big 0 0 more) (sym (added_bytes-nil big 0 0))
added-behind big [] more (suc zero) within = absurd (omega (arith, within))
added-behind big (x ∷ text) more (suc zero) within = added_bytes-append big 0 0 (x ∷ []) more
added-behind big text more (suc (suc k)) within =
    let n = suc (suc k) in
    let front = take n text in
    let long : length front ≡ n = length-take-le n text within in
    let one : last_of 0 front ≡ slice_index text (suc k) = last_of-get 0 (suc k) front long ∙ get_or-take n text (suc k) 0 (omega arith) in
    let two : last_but_one 0 0 front ≡ slice_index text k = last_but_one-get 0 0 k front long ∙ get_or-take n text k 0 (omega arith) in
    added_bytes-append big 0 0 front more ∙ ap₂ (λ x y. added_bytes big 0 0 front ++ added_bytes big x y more) two one

next-added : (big : Bool) (bytes front done all : List ℕ) (read n : ℕ) → read ≤ length bytes → front ++ done ≡ added_bytes big 0 0 (take read bytes)
    → all ≡ done ++ added_bytes big (slice_index (behind 2 bytes) read) (slice_index (behind 1 bytes) read) (take n (drop read bytes)) → front ++ all ≡ added_bytes big 0 0 (take (read + n) bytes)
next-added big bytes front done all read n within before step =
    let next = take n (drop read bytes) in
    let more = added_bytes big (slice_index (behind 2 bytes) read) (slice_index (behind 1 bytes) read) next in
    ap (λ t. front ++ t) step ∙ sym (append_assoc front done more) ∙ ap (λ t. t ++ more) before
    ∙ sym (added-behind big bytes next read within) ∙ ap (added_bytes big 0 0) (sym (take-add read n bytes))

-- ---- the lanes that were not written before

pairs-skip : (big : Bool) (d : ℕ) (highs lows : List ℕ) → d ≤ length highs → length highs ≡ length lows → drop (2 * d) (pairs_of big highs lows) ≡ pairs_of big (drop d highs) (drop d lows)
pairs-skip big zero highs lows room same = refl
pairs-skip big (suc d) [] lows room same = absurd (omega arith)
pairs-skip big (suc d) (h ∷ highs) [] room same = absurd (omega arith)
pairs-skip big (suc d) (h ∷ highs) (l ∷ lows) room same =
    let next : 2 * suc d ≡ suc (suc (2 * d)) = omega arith in
    ap (λ n. drop n (pairs_of big (h ∷ highs) (l ∷ lows))) next ∙ two big ∙ pairs-skip big d highs lows (omega arith) (omega arith)
  where
    two : (big : Bool) → drop (suc (suc (2 * d))) (pairs_of big (h ∷ highs) (l ∷ lows)) ≡ drop (2 * d) (pairs_of big highs lows)
    two true = refl
    two false = refl

pairs-length : (big : Bool) (highs lows : List ℕ) → length highs ≡ length lows → length (pairs_of big highs lows) ≡ 2 * length highs
pairs-length big [] lows same = refl
pairs-length big (h ∷ highs) [] same = absurd (omega arith)
pairs-length big (h ∷ highs) (l ∷ lows) same = two big ∙ omega (arith, pairs-length big highs lows (omega arith))
  where
    two : (big : Bool) → length (pairs_of big (h ∷ highs) (l ∷ lows)) ≡ suc (suc (length (pairs_of big highs lows)))
    two true = refl
    two false = refl

-- a byte before some of the next bytes
shown-behind : (d at n : ℕ) (bytes v : List ℕ) → ((i : ℕ) → i < n → slice_index v i ≡ slice_index (behind d bytes) (at + i))
    → (i : ℕ) → i < suc n → slice_index (slice_index (behind (suc d) bytes) at ∷ v) i ≡ slice_index (behind (suc d) bytes) (at + i)
shown-behind d at n bytes v lanes zero few = ap (slice_index (behind (suc d) bytes)) here where
  here : at ≡ at + 0
  here = omega arith
shown-behind d at n bytes v lanes (suc i) few = lanes i (omega (arith, few)) ∙ ap (slice_index (behind (suc d) bytes)) next where
  next : suc (at + i) ≡ at + suc i
  next = omega arith

-- sixteen bytes at `at`, of which those before `from` were written
module _ (big : Bool) (most : ℕ) (bytes highs lows : List ℕ) (ended at from : ℕ) (more : at + 16 ≤ length bytes) (after : at ≤ from) (before : from ≤ at + 16)
    (below : AreBelowFrom bytes (at - 3) (limit_of most)) (all : FollowTo (at + 16) bytes 0)
    (hold : HoldUnits most (drop at (behind 2 bytes)) (drop at (behind 1 bytes)) (drop at bytes) highs lows ended) where
  abbrev d : ℕ
  d = from - at

  abbrev left : List ℕ
  left = take (at + 16 - from) (drop from bytes)

  long : length left ≡ 16 - d
  long = length-take-le (at + 16 - from) (drop from bytes) (omega (arith, length-drop from bytes, more)) ∙ omega (arith, after)

  here : (i : ℕ) → i < 16 - d → slice_index left i ≡ slice_index (behind 0 bytes) (from + i)
  here i few = get_or-take (at + 16 - from) (drop from bytes) i 0 (omega (arith, few, after)) ∙ get_or-drop from bytes i 0

  one : (i : ℕ) → i < suc (16 - d) → slice_index (slice_index (behind 1 bytes) from ∷ left) i ≡ slice_index (behind 1 bytes) (from + i)
  one = shown-behind 0 from (16 - d) bytes left here

  two : (i : ℕ) → i < suc (suc (16 - d)) → slice_index (slice_index (behind 2 bytes) from ∷ slice_index (behind 1 bytes) from ∷ left) i ≡ slice_index (behind 2 bytes) (from + i)
  two = shown-behind 1 from (suc (16 - d)) bytes (slice_index (behind 1 bytes) from ∷ left) one

  -- a lane of what was read
  lane : (e i : ℕ) → slice_index (drop at (behind e bytes)) (d + i) ≡ slice_index (behind e bytes) (from + i)
  lane e i =
      let place : at + (d + i) ≡ from + i = omega (arith, after) in
      get_or-drop at (behind e bytes) (d + i) 0 ∙ ap (slice_index (behind e bytes)) place

  follows : (i : ℕ) → i < 16 - d → FollowsAtMost most (slice_index (drop at (behind 2 bytes)) (d + i)) (slice_index (drop at (behind 1 bytes)) (d + i)) (slice_index (drop at bytes) (d + i))
  follows i few =
      let place : from + i ≡ 0 + (from + i) = omega arith in
      same-three (FollowsAtMost most) _ _ _ _ _ _ (lane 2 i) (lane 1 i) (lane 0 i ∙ ap (slice_index bytes) place)
      (follows-at-most bytes most (at + 16) (from + i) (omega (arith, few, after)) (below-later bytes (at - 3) (from + i - 3) (limit_of most) (omega (arith, after)) below) all)

  each : (i : ℕ) → i < length left
      → cond (ended / 2 ^ d / 2 ^ i % 2 == 1) (pair_bytes big (slice_index (drop d highs) i) (slice_index (drop d lows) i)) []
      ≡ byte_adds big (slice_index (slice_index (behind 2 bytes) from ∷ slice_index (behind 1 bytes) from ∷ left) i) (slice_index (slice_index (behind 1 bytes) from ∷ left) i) (slice_index left i)
  each i b =
      let few : i < 16 - d = omega (arith, b, long) in
      let unit = hold.each (d + i) (omega (arith, few)) (follows i few) in
      let bit = ap (λ n. n % 2) (div-div-eq-div-mul ended (2 ^ d) (2 ^ i) ∙ ap (λ n. ended / n) (sym (pow-add 2 d i))) in
      unit-added big _ _ _ _ _ _ (bit ∙ unit.ends) (λ low next. bytes-by _ _ _ _ _ (get_or-drop d highs i 0) (get_or-drop d lows i 0) (unit.bytes low next))
      ∙ ap₂ (λ x y. byte_adds big x y (slice_index (drop at bytes) (d + i))) (lane 2 i ∙ sym (two i (omega (arith, few)))) (lane 1 i ∙ sym (one i (omega (arith, few))))
      ∙ ap (byte_adds big (slice_index (slice_index (behind 2 bytes) from ∷ slice_index (behind 1 bytes) from ∷ left) i) (slice_index (slice_index (behind 1 bytes) from ∷ left) i)) (lane 0 i ∙ sym (here i few))

  pub left-added : kept_pairs (ended / 2 ^ d * 2 ^ d) (pairs_of big highs lows) ≡ added_bytes big (slice_index (behind 2 bytes) from) (slice_index (behind 1 bytes) from) left
  left-added =
      kept-skip d (ended / 2 ^ d) (pairs_of big highs lows) (omega (arith, pairs-length big highs lows (hold.high_len ∙ sym hold.low_len), hold.high_len, before, after))
      ∙ ap (kept_pairs (ended / 2 ^ d)) (pairs-skip big d highs lows (omega (arith, hold.high_len, before, after)) (hold.high_len ∙ sym hold.low_len))
      ∙ kept-added big (slice_index (behind 2 bytes) from) (slice_index (behind 1 bytes) from) left (drop d highs) (drop d lows) (ended / 2 ^ d)
      (record { high_len = length-drop d highs ∙ omega (arith, hold.high_len, long); low_len = length-drop d lows ∙ omega (arith, hold.low_len, long); each = each })

-- ---- what was tried

-- nothing
pub none-tried : (big : Bool) (bytes out faults : List ℕ) (from : ℕ) → from ≤ length bytes → IsUtf8 (take from bytes) → ((i : ℕ) → i < 16 → slice_index faults i < 1) → IsTried big bytes out from from 0 faults
none-tried big bytes out faults from within utf8 none = record {
  faults = (λ _. begun-follow bytes from within utf8, λ _. none);
  wrote = λ _. append-nil (encode big (chars (take from bytes))) ∙ sym (added_bytes-text big (take from bytes) utf8);
  short = omega arith;
}

-- sixteen bytes more, some of which came before
pub more-tried : (big : Bool) (bytes out out' lanes lanes' : List ℕ) (start at from written written' : ℕ) → at ≤ from → from ≤ at + 16 → at + 16 ≤ length bytes
    → ((((i : ℕ) → i < 16 → slice_index lanes' i < 1)) ↔ (((i : ℕ) → i < 16 → slice_index lanes i < 1) × FollowFrom bytes at))
    → (FollowTo (at + 16) bytes 0 → take written' out' ≡ take written out ++ added_bytes big (slice_index (behind 2 bytes) from) (slice_index (behind 1 bytes) from) (take (at + 16 - from) (drop from bytes)))
    → written' ≤ written + 2 * (16 - (from - at)) → IsTried big bytes out start from written lanes → IsTried big bytes out' start (at + 16) written' lanes'
more-tried big bytes out out' lanes lanes' start at from written written' after before more both step short tried =
    let whole : from + (at + 16 - from) ≡ at + 16 = omega (arith, before) in
    let restrict : FollowTo (at + 16) bytes 0 → FollowTo from bytes 0 = λ all i below. all i (omega (arith, below, before)) in
    record {
      faults = (
        (λ none. let two = both.0 none in follow-more-from bytes at from after (tried.faults.0 two.0) two.1),
        (λ all. both.1 (tried.faults.1 (restrict all), follow-from bytes at all)),
      );
      wrote = λ all.
          next-added big bytes (encode big (chars (take start bytes))) (take written out) (take written' out') from (at + 16 - from) (omega (arith, before, more)) (tried.wrote (restrict all)) (step all)
          ∙ ap (λ n. added_bytes big 0 0 (take n bytes)) whole;
      short = omega (arith, tried.short, short, after, before);
    }

-- all bytes, if they are a text
pub all-tried : (big : Bool) (bytes out faults : List ℕ) (from written : ℕ) → IsUtf8 bytes → FollowTo (length bytes) bytes 0 → IsTried big bytes out from (length bytes) written faults → IsRestWritten big bytes out from written
all-tried big bytes out faults from written utf8 all tried = record {
  well_formed = utf8;
  wrote = tried.wrote all ∙ ap (added_bytes big 0 0) (take-length bytes) ∙ added_bytes-text big bytes utf8;
  short = tried.short;
}

-- ---- the rest of the first `len` bytes, written to the rest of the buffer

pub rest-written : (big : Bool) (bytes old part : List ℕ) (read written len end : ℕ) → IsWritten big bytes old read written → length part ≡ length old - written → end ≤ length part → read ≤ len → len ≤ length bytes
    → IsRestWritten big (take len bytes) part read end → IsWritten big bytes (put_mid written (length old - written) old part) len (written + end)
rest-written big bytes old part read written len end done long fits after within rest =
    let start = length-take-le written old done.fits in
    let more = drop (length old - written) (drop written old) in
    let first : take read (take len bytes) ≡ take read bytes = take-take read len bytes after in
    record {
      within = within;
      well_formed = rest.well_formed;
      wrote =
          ap (λ k. take (k + end) (take written old ++ (part ++ more))) (sym start) ∙ take-append-add (take written old) (part ++ more) end
          ∙ ap₂ (λ x y. x ++ y) (done.wrote ∙ ap (λ t. encode big (chars t)) (sym first)) (take-append-le end part more fits) ∙ rest.wrote;
      short = omega (arith, done.short, rest.short, length-take-le len bytes within);
      fits = omega (arith, fits, start, length-append (take written old) (part ++ more), length-append part more);
    }
