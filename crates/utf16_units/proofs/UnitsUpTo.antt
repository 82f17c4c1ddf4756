-- The units of bytes up to an offset between units, and from there on.
use Rattle.std.proofs.Common.{◌≡◌, ℕ, suc, ◌+◌, ◌-◌, ◌*◌, ◌/◌, ◌%◌, ◌<◌, ◌≤◌, Bool, List, [], ◌∷◌, ◌++◌, length, take, drop, slice_index, refl, sym, ap, ◌∙◌, arith, append-nil, drop-cons, drop-drop, flat_map, length-drop, length-take-le, take-add, take-append-drop}
use Rattle.std.proofs.lemmas.List.{get_or-append_right, take_at}
use Rattle.std.specs.Char.Escape.{encode_utf16}
use Rattle.utf16_units.specs.Unit.{unit_of}
use Rattle.utf16_units.specs.Encoding.{encode, IsUtf16, text_of, units_of}
use Rattle.utf16_units.proofs.EncodingLemmas.{encode-cons, encode-nil, encode-text_of}
use Rattle.utf16_units.proofs.UnitLemmas.{units_of-units}

-- the units of bytes concatenated at an even offset
units_of-append : (big : Bool) (front back : List ℕ) → length front % 2 ≡ 0 → units_of big (front ++ back) ≡ units_of big front ++ units_of big back
unfolding units_of
units_of-append big [] back even = refl
units_of-append big (x ∷ []) back even = absurd (omega arith)
units_of-append big (x ∷ y ∷ front) back even = ap (λ us. unit_of big x y ∷ us) (units_of-append big front back (omega arith))

-- the units up to an offset, and the units of the next n bytes
pub units_of-next : (big : Bool) (bytes : List ℕ) (at n : ℕ) → at % 2 ≡ 0 → at ≤ length bytes
    → units_of big (take (at + n) bytes) ≡ units_of big (take at bytes) ++ units_of big (take n (drop at bytes))
units_of-next big bytes at n even within =
    let long = length-take-le at bytes within in
    ap (units_of big) (take-add at n bytes) ∙ units_of-append big (take at bytes) (take n (drop at bytes)) (omega (arith, long))

-- the next unit by itself
pub units_of-one : (big : Bool) (bytes : List ℕ) (at : ℕ) → at + 2 ≤ length bytes
    → units_of big (take 2 (drop at bytes)) ≡ unit_of big (slice_index bytes at) (slice_index bytes (at + 1)) ∷ []
unfolding units_of
units_of-one big bytes at within =
    let next : suc at ≡ at + 1 = omega arith in
    ap (λ rest. units_of big (take 2 rest)) (drop-cons bytes at 0 (omega arith) ∙ ap (λ rest. slice_index bytes at ∷ rest) (drop-cons bytes (suc at) 0 (omega arith)))
    ∙ ap (λ i. unit_of big (slice_index bytes at) (slice_index bytes i) ∷ []) next

pub units_of-short : (big : Bool) (bytes : List ℕ) → length bytes < 2 → units_of big bytes ≡ []
unfolding units_of
units_of-short big [] few = refl
units_of-short big (x ∷ []) few = refl
units_of-short big (x ∷ y ∷ bytes) few = absurd (omega arith)

pub units_of-split : (big : Bool) (bytes : List ℕ) (at : ℕ) → at % 2 ≡ 0 → at ≤ length bytes → units_of big bytes ≡ units_of big (take at bytes) ++ units_of big (drop at bytes)
units_of-split big bytes at even within =
    ap (units_of big) (sym (take-append-drop at bytes))
    ∙ units_of-append big (take at bytes) (drop at bytes) (omega (arith, length-take-le at bytes within))

-- the units of the next n bytes, and of those after them
pub units_of-behind : (big : Bool) (bytes : List ℕ) (at n : ℕ) → n % 2 ≡ 0 → at + n ≤ length bytes
    → units_of big (drop at bytes) ≡ units_of big (take n (drop at bytes)) ++ units_of big (drop (at + n) bytes)
units_of-behind big bytes at n even room =
    units_of-split big (drop at bytes) n even (omega (arith, length-drop at bytes, room))
    ∙ ap (λ bs. units_of big (take n (drop at bytes)) ++ units_of big bs) (drop-drop n at bytes)

-- if less than a unit is left, the units up to the offset are all units
pub units_of-all : (big : Bool) (bytes : List ℕ) (at : ℕ) → at % 2 ≡ 0 → at ≤ length bytes → length bytes < at + 2 → units_of big bytes ≡ units_of big (take at bytes)
units_of-all big bytes at even within few =
    units_of-split big bytes at even within
    ∙ ap (λ us. units_of big (take at bytes) ++ us) (units_of-short big (drop at bytes) (omega (arith, length-drop at bytes)))
    ∙ append-nil (units_of big (take at bytes))

pub length-units_of : (big : Bool) (bytes : List ℕ) → length (units_of big bytes) ≡ length bytes / 2
unfolding units_of
length-units_of big [] = omega arith
length-units_of big (x ∷ []) = omega arith
length-units_of big (x ∷ y ∷ bytes) = omega (arith, length-units_of big bytes)

-- the first n units are the units of the first 2 * n bytes
pub units_of-front : (big : Bool) (bytes : List ℕ) (n : ℕ) → 2 * n ≤ length bytes → take n (units_of big bytes) ≡ units_of big (take (2 * n) bytes)
units_of-front big bytes n within =
    let front = units_of big (take (2 * n) bytes) in
    ap (take n) (units_of-split big bytes (2 * n) (omega arith) within)
    ∙ take_at front _ n (omega (arith, length-units_of big (take (2 * n) bytes), length-take-le (2 * n) bytes within))

-- the unit at an index is the unit of the two bytes there
pub units_of-at : (big : Bool) (bytes : List ℕ) (i : ℕ) → 2 * i + 2 ≤ length bytes
    → slice_index (units_of big bytes) i ≡ unit_of big (slice_index bytes (2 * i)) (slice_index bytes (2 * i + 1))
units_of-at big bytes i within =
    let front = units_of big (take (2 * i) bytes) in
    let many : length front ≡ i = omega (arith, length-units_of big (take (2 * i) bytes), length-take-le (2 * i) bytes (omega arith)) in
    let two : i - i ≡ 0 = omega arith in
    ap (λ units. slice_index units i) (units_of-split big bytes (2 * i) (omega arith) (omega arith))
    ∙ get_or-append_right front (units_of big (drop (2 * i) bytes)) i i 0 many (omega arith)
    ∙ ap (slice_index (units_of big (drop (2 * i) bytes))) two
    ∙ ap (λ units. slice_index units 0) (units_of-behind big bytes (2 * i) 2 refl within)
    ∙ ap (λ units. slice_index (units ++ units_of big (drop (2 * i + 2) bytes)) 0) (units_of-one big bytes (2 * i) within)

-- the units of an encoding are its characters' units
units_of-encode : (big : Bool) (text : List ℕ) → units_of big (encode big text) ≡ flat_map encode_utf16 text
unfolding units_of
units_of-encode big [] = ap (units_of big) (encode-nil big)
units_of-encode big (c ∷ text) =
    ap (units_of big) (encode-cons big c text)
    ∙ units_of-units big (encode_utf16 c) (encode big text)
    ∙ ap (λ us. encode_utf16 c ++ us) (units_of-encode big text)

pub units_of-text : (big : Bool) (bytes : List ℕ) → IsUtf16 big bytes → units_of big bytes ≡ flat_map encode_utf16 (text_of big bytes)
units_of-text big bytes t = ap (units_of big) (sym (encode-text_of big bytes t)) ∙ units_of-encode big (text_of big bytes)
