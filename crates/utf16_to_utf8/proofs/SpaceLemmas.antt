-- How much space a text in UTF-8 takes and leaves.
use Rattle.std.proofs.Common.{◌≡◌, ℕ, ◌+◌, ◌-◌, ◌*◌, ◌/◌, ◌%◌, ◌<◌, ◌≤◌, ◌⊎◌, ◌++◌, Bool, List, ⊎_elim, ap, append-nil, arith, drop, encode_utf8_all, length, length-append, length-drop, length-take, length-take-le, refl, subst, sym, take, take-append-drop, take_all, ◌∙◌}
use Rattle.std.proofs.lemmas.Bool.{cases_lt}
use Rattle.std.proofs.Math.Seq.{take-append-add}
use Rattle.std.proofs.lemmas.List.{nil_from_length, take-take}
use Rattle.std.proofs.lemmas.Slice.{take-put_mid}
use borrow.Rule.Slice.PartMut.{put_mid}
use Rattle.std.specs.Prelude.{min}
use Rattle.utf16_units.specs.Encoding.{IsUtf16, text_of, utf8_of}
use Rattle.utf16_units.proofs.BackChar.{size-even}
use Rattle.utf16_units.proofs.EncodingLemmas.{IsUtf16-rest, length-text, text_of-append, text_of-nil}
use Rattle.utf16_units.proofs.PieceLemmas.{encodes-le-size, utf8-append}

-- a text in UTF-8 fits in the buffer that it was written to
pub written-fits : (out text : List ℕ) (written : ℕ) → take written out ≡ text → written ≡ length text → written ≤ length out
written-fits out text written is long = omega (arith, length-take written out, ap length is, long)

-- once nothing is left of a text, all of it is written
pub all-written : (big : Bool) (rest done whole : List ℕ) → length rest ≡ 0 → done ++ utf8_of big rest ≡ whole → done ≡ whole
all-written big rest done whole none so =
    sym (append-nil done) ∙ ap (λ t. done ++ encode_utf8_all t) (sym (ap (text_of big) (nil_from_length rest none) ∙ text_of-nil big)) ∙ so

-- a text takes at most three bytes for each of its code units
pub few-bytes : (big : Bool) (raw out : List ℕ) (read written : ℕ) → IsUtf16 big (take read raw) → read ≤ length raw → written ≤ length out
    → take written out ≡ utf8_of big (take read raw) → (2 * written ≤ 3 * read) × (read % 2 ≡ 0)
few-bytes big raw out read written text within fits utf8 =
    let chars = text_of big (take read raw) in
    let size = length-text big (take read raw) text in
    let front = length-take-le read raw within in
    let wrote = sym (length-take-le written out fits) ∙ ap length utf8 in
    (omega (arith, encodes-le-size chars, size, front, wrote), omega (arith, size-even chars, size, front))

-- the UTF-8 of a text is that of a well-formed beginning, and then that of the rest
pub utf8-rest : (big : Bool) (raw : List ℕ) (read : ℕ) → IsUtf16 big raw → IsUtf16 big (take read raw)
    → IsUtf16 big (drop read raw) × (utf8_of big raw ≡ utf8_of big (take read raw) ++ utf8_of big (drop read raw))
utf8-rest big raw read text front =
    let head = take read raw in
    let rest = drop read raw in
    let whole = take-append-drop read raw in (
      IsUtf16-rest big head rest front (subst (IsUtf16 big) (sym whole) text),
      ap (utf8_of big) (sym whole) ∙ ap encode_utf8_all (text_of-append big head rest front) ∙ utf8-append (text_of big head) (text_of big rest),
    )

-- with space for all of it, the whole text is read
pub all-read : (big : Bool) (raw out : List ℕ) (read written : ℕ) → IsUtf16 big (take read raw) → read ≤ length raw → written ≤ length out
    → take written out ≡ utf8_of big (take read raw) → length raw / 2 * 3 + 128 ≤ length out → (read ≡ length raw) ⊎ (length out < written + 34)
    → take written out ≡ utf8_of big raw
all-read big raw out read written text within fits utf8 space whole =
    let bound = few-bytes big raw out read written text within fits utf8 in
    ⊎_elim
    (λ (all : read ≡ length raw). utf8 ∙ ap (utf8_of big) (take_all read raw (omega (arith, all))))
    (λ (few : length out < written + 34). absurd (omega (arith, few, bound.0, within, space)))
    whole

-- if little of the first part of the buffer is left, little is left of all of it
pub little-left : (space len part size at end : ℕ) → space ≤ 128 → part ≡ min len (size / 2 * 3 + 128) → 2 * end ≤ 3 * at → at % 2 ≡ 0 → at ≤ size → part < end + space → len < end + space
little-left space len part size at end most is short even within full = ⊎_elim
    (λ (less : len < size / 2 * 3 + 128). omega (arith, is, less, full))
    (λ (more : size / 2 * 3 + 128 ≤ len). absurd (omega (arith, is, most, more, short, even, within, full)))
    (cases_lt len (size / 2 * 3 + 128))

pub little-behind : (space size end : ℕ) (to new : List ℕ) (room at written : ℕ) → space ≤ 128 → room ≡ min (length to) (size / 2 * 3 + 128) → length new ≡ length (take room to)
    → 2 * end ≤ 3 * at → at % 2 ≡ 0 → at ≤ size → end ≤ written + 2 → length new < end + space → length (new ++ drop room to) < written + (space + 2)
little-behind space size end to new room at written most is long short even within near full =
    let part = length-take room to in
    let less = little-left space (length to) (length new) size at end most (omega (arith, long, part, is)) short even within full in
    omega (arith, less, near, length-append new (drop room to), length-drop room to, long, part, is)

-- what is written after the first bytes is within a buffer of the same length
pub written-within : (at n : ℕ) (old new : List ℕ) → at ≤ length old → n ≤ length new → at + n ≤ length (put_mid at (length old - at) old new)
written-within at n old new within fits =
    let head = take at old in
    let tail = drop (length old - at) (drop at old) in
    let long : at + n ≤ length (head ++ (new ++ tail)) = omega (arith, length-append head (new ++ tail), length-append new tail, length-take-le at old within, fits) in
    long

-- the first bytes of a buffer, and then what is written after them
pub written-twice : (at n : ℕ) (old new : List ℕ) → at ≤ length old → n ≤ length new
    → take (at + n) (put_mid at (length old - at) old new) ≡ take at old ++ take n new
written-twice at n old new within fits =
    let head = take at old in
    sym (take-take (at + n) (at + length new) _ (omega (arith, fits)))
    ∙ ap (take (at + n)) (take-put_mid at (length old - at) old new (at + length new) refl within)
    ∙ ap (λ k. take (k + n) (head ++ new)) (sym (length-take-le at old within)) ∙ take-append-add head new n
