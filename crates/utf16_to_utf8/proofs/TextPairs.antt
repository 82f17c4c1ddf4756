-- The surrogates of a text are paired, also those after an offset.
use Rattle.std.proofs.Common.{◌≡◌, ℕ, suc, ◌+◌, ◌-◌, ◌/◌, ◌%◌, ◌<◌, ◌≤◌, Bool, false, List, [], ◌∷◌, ◌++◌, All, length, length-drop, map, take, drop, replicate, refl, sym, ap, ◌∙◌, subst, ⊎_elim, arith, flat_map, append-nil, append_assoc, le-ltb, lt-ltb}
use Rattle.std.proofs.lemmas.Bool.{cases_lt, le-leb, lt-leb}
use Rattle.std.proofs.lemmas.List.{append_cancel_left, drop_all, map-append}
use Rattle.std.proofs.lemmas.List.Elements.{All-cons, All-head, All-nil, All-tail}
use Rattle.std.proofs.str.Utf16.{one_unit, two_units}
use Rattle.std.specs.Char.{IsScalar}
use Rattle.std.specs.Char.Escape.{encode_utf16}
use Rattle.std.specs.Char.Utf16.{is_high_surrogate, is_low_surrogate}
use Rattle.utf16_units.specs.Encoding.{IsUtf16, text_of, units_of}
use Rattle.utf16_units.specs.Lanes.{IsNoSurrogate, Paired, PairedTo}
use Rattle.utf16_units.proofs.CharLemmas.{no_surrogate}
use Rattle.utf16_units.proofs.EncodingLemmas.{scalars-text_of}
use Rattle.utf16_units.proofs.PairLemmas.{Paired-append}
use Rattle.utf16_units.proofs.PlainLemmas.{no_surrogate-paired}
use Rattle.utf16_units.proofs.UnitsUpTo.{units_of-split, units_of-text}
use Rattle.utf16_to_utf8.proofs.LeadingLemmas.{paired-front}
use Rattle.utf16_to_utf8.proofs.TextLemmas.{no_units}

low-unit : (unit : ℕ) → unit < 0xD800 → IsNoSurrogate unit
low-unit unit low =
    let two : unit < 0xDC00 = omega (arith, low) in
    (rw (lt-leb 0xD800 unit low) refl, rw (lt-leb 0xDC00 unit two) refl)

high-unit : (unit : ℕ) → 0xE000 ≤ unit → IsNoSurrogate unit
high-unit unit above =
    let from : 0xD800 ≤ unit = omega (arith, above) in
    let two : 0xDC00 ≤ unit = omega (arith, above) in
    (rw (le-leb 0xD800 unit from, le-ltb unit 0xDC00 two) refl, rw (le-leb 0xDC00 unit two, le-ltb unit 0xE000 above) refl)

pair-paired : (lead trail : ℕ) → 0xD800 ≤ lead → lead < 0xDC00 → 0xDC00 ≤ trail → trail < 0xE000 → Paired false (lead ∷ trail ∷ []) false
pair-paired lead trail a b c d =
    let above : 0xD800 ≤ trail = omega (arith, c) in
    rw (le-leb 0xD800 lead a, lt-ltb lead 0xDC00 b, lt-leb 0xDC00 lead b, le-leb 0xD800 trail above, le-ltb trail 0xDC00 c, le-leb 0xDC00 trail c, lt-ltb trail 0xE000 d) refl

char-paired : (c : ℕ) → IsScalar c → Paired false (encode_utf16 c) false
char-paired c scalar = ⊎_elim
    (λ (one : c < 0x1_0000).
    let plain = ⊎_elim (λ (low : c < 0xD800). low-unit c low) (λ (high : (0xE000 ≤ c) × (c < 0x11_0000)). high-unit c high.0) (no_surrogate c scalar) in
    subst (λ us. Paired false us false) (sym (one_unit c one)) (no_surrogate-paired (c ∷ []) (All-cons IsNoSurrogate c [] plain (All-nil IsNoSurrogate))))
    (λ (two : 0x1_0000 ≤ c).
    let top : c < 0x11_0000 = ⊎_elim (λ (low : c < 0xD800). omega arith) (λ (high : (0xE000 ≤ c) × (c < 0x11_0000)). high.1) (no_surrogate c scalar) in
    subst (λ us. Paired false us false) (sym (two_units c two))
    (pair-paired (0xD800 + (c - 0x1_0000) / 0x400) (0xDC00 + (c - 0x1_0000) % 0x400) (omega arith) (omega arith) (omega arith) (omega arith)))
    (cases_lt c 0x1_0000)

text-paired : (text : List ℕ) → All IsScalar text → Paired false (flat_map encode_utf16 text) false
text-paired [] scalars = refl
text-paired (c ∷ text) scalars =
    Paired-append false false false (encode_utf16 c) (flat_map encode_utf16 text) (char-paired c (All-head IsScalar c text scalars)) (text-paired text (All-tail IsScalar c text scalars))

bytes-paired : (big : Bool) (bytes : List ℕ) → IsUtf16 big bytes → Paired false (units_of big bytes) false
bytes-paired big bytes t = subst (λ us. Paired false us false) (sym (units_of-text big bytes t)) (text-paired (text_of big bytes) (scalars-text_of big bytes t))

-- of paired units, those after paired ones
paired-behind : (between after : Bool) (front back : List ℕ) → Paired false front between → Paired false (front ++ back) after → Paired between back after
paired-behind between after front back f all =
    let lows = map is_low_surrogate front in
    append_cancel_left lows (map is_low_surrogate back ++ after ∷ []) (between ∷ map is_high_surrogate back)
    (sym (append_assoc lows (map is_low_surrogate back) (after ∷ [])) ∙ ap (λ bits. bits ++ after ∷ []) (sym (map-append is_low_surrogate front back)) ∙ all
    ∙ ap (λ bits. false ∷ bits) (map-append is_high_surrogate front back) ∙ ap (λ bits. bits ++ map is_high_surrogate back) (sym f)
    ∙ append_assoc lows (between ∷ []) (map is_high_surrogate back))

abbrev head_bit : List Bool → Bool
head_bit [] = false
head_bit (b ∷ bits) = b

-- of paired units, those before others
paired-before : (before after : Bool) (front back : List ℕ) → Paired before (front ++ back) after → (between : Bool) × Paired before front between
paired-before before after front [] p = (after, subst (λ us. Paired before us after) (append-nil front) p)
paired-before before after front (unit ∷ back) p =
    let more = paired-before before after (front ++ unit ∷ []) back (subst (λ us. Paired before us after) (sym (append_assoc front (unit ∷ []) back)) p) in
    (is_low_surrogate unit, paired-front before more.0 front unit more.1)

-- if zeros follow, the last unit is not leading
pub zeros-behind : (before after : Bool) (front : List ℕ) (k : ℕ) → Paired before (front ++ replicate (suc k) 0) after → Paired before front false
unfolding paired-before
zeros-behind before after front k p = (paired-before before after front (replicate (suc k) 0) p).1

-- the units of a text after an offset
pub rest-paired : (big : Bool) (bytes : List ℕ) (at : ℕ) (before : Bool) → IsUtf16 big bytes → PairedTo big bytes at before → Paired before (units_of big (drop at bytes)) false
rest-paired big bytes at before t done =
    paired-behind before false (units_of big (take at bytes)) (units_of big (drop at bytes)) done.paired
    (subst (λ us. Paired false us false) (units_of-split big bytes at done.even done.within) (bytes-paired big bytes t))

-- the last unit of a text is not leading
pub end-paired : (big : Bool) (bytes : List ℕ) (at : ℕ) (before : Bool) → IsUtf16 big bytes → PairedTo big bytes at before → length bytes ≤ at → before ≡ false
end-paired big bytes at before t done all =
    sym (ap head_bit (subst (λ us. Paired before us false) (no_units big (drop_all at bytes all)) (rest-paired big bytes at before t done)))

-- the next units of a text
pub next-paired : (big : Bool) (bytes : List ℕ) (at n : ℕ) (before : Bool) → IsUtf16 big bytes → PairedTo big bytes at before → n % 2 ≡ 0 → at + n ≤ length bytes
    → (after : Bool) × Paired before (units_of big (take n (drop at bytes))) after
next-paired big bytes at n before t done even more =
    paired-before before false (units_of big (take n (drop at bytes))) (units_of big (drop n (drop at bytes)))
    (subst (λ us. Paired before us false) (units_of-split big (drop at bytes) n even (omega (arith, length-drop at bytes, more))) (rest-paired big bytes at before t done))
