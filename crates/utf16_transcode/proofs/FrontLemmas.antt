-- How far blocks come in a text: the surrogates of the units at its start are paired.
use Rattle.std.proofs.Common.{◌≡◌, ℕ, ◌+◌, ◌%◌, ◌<◌, ◌≤◌, Bool, false, List, [], ◌∷◌, ◌++◌, length, take, drop, refl, sym, ap, ap₂, ◌∙◌, subst, ⊎_elim, arith, flat_map, length-drop, take-append-drop}
use Rattle.std.proofs.lemmas.Bool.{cases_lt}
use Rattle.std.proofs.lemmas.Bool.Decides.{nat_tests}
use Rattle.std.proofs.lemmas.List.Elements.{All-head, All-tail}
use Rattle.std.proofs.str.Utf16.{one_unit, two_units}
use Rattle.std.specs.Prelude.{All}
use Rattle.std.specs.Char.{IsScalar}
use Rattle.std.specs.Char.Escape.{encode_utf16}
use Rattle.std.specs.Char.Utf16.{is_high_surrogate, is_low_surrogate}
use Rattle.utf16_units.specs.Encoding.{IsUtf16, text_of, units_of}
use Rattle.utf16_units.specs.Lanes.{BlocksStopAt, Paired}
use Rattle.utf16_units.proofs.CharLemmas.{no_surrogate}
use Rattle.utf16_units.proofs.EncodingLemmas.{IsUtf16-rest, scalars-text_of}
use Rattle.utf16_units.proofs.PairLemmas.{Paired-append}
use Rattle.utf16_units.proofs.UnitsUpTo.{units_of-split, units_of-text}

abbrev first_bit : List Bool → Bool
first_bit [] = false
first_bit (b ∷ bits) = b

-- a character is one unit that is no surrogate, or a pair
paired_char : (c : ℕ) → IsScalar c → Paired false (encode_utf16 c) false
paired_char c scalar = ⊎_elim
    (λ (one : c < 0x1_0000).
    let cases = no_surrogate c scalar in
    let low : is_low_surrogate c ≡ false = grind (arith, nat_tests) in
    let high : is_high_surrogate c ≡ false = grind (arith, nat_tests) in
    subst (λ us. Paired false us false) (sym (one_unit c one)) (ap₂ (λ l h. l ∷ h ∷ []) low (sym high)))
    (λ (two : 0x1_0000 ≤ c).
    let cases = no_surrogate c scalar in
    subst (λ us. Paired false us false) (sym (two_units c two)) (grind (arith, nat_tests)))
    (cases_lt c 0x1_0000)

paired_text : (text : List ℕ) → All IsScalar text → Paired false (flat_map encode_utf16 text) false
paired_text [] scalars = refl
paired_text (c ∷ text) scalars =
    Paired-append false false false (encode_utf16 c) (flat_map encode_utf16 text) (paired_char c (All-head IsScalar c text scalars))
    (paired_text text (All-tail IsScalar c text scalars))

paired_front : (before after : Bool) (front back : List ℕ) → Paired before (front ++ back) after → (last : Bool) × Paired before front last
paired_front before after [] back paired = (before, refl)
paired_front before after (unit ∷ front) back paired =
    let more = paired_front (is_high_surrogate unit) after front back (ap (drop 1) paired) in
    (more.0, ap₂ (λ b bits. b ∷ bits) (ap first_bit paired) more.1)

-- blocks stop in a text only if fewer bytes are left
pub blocks_pass : (big : Bool) (raw : List ℕ) (at size : ℕ) → IsUtf16 big raw → IsUtf16 big (take at raw) → size % 2 ≡ 0
    → BlocksStopAt size big raw at false → length raw < at + size
blocks_pass big raw at size text front even stops = ⊎_elim
    (λ (few : length raw < at + size). few)
    (λ (long : at + size ≤ length raw).
    let rest = IsUtf16-rest big (take at raw) (drop at raw) front (subst (IsUtf16 big) (sym (take-append-drop at raw)) text) in
    let units = sym (units_of-split big (drop at raw) size even (omega (arith, length-drop at raw))) ∙ units_of-text big (drop at raw) rest in
    let paired = subst (λ us. Paired false us false) (sym units) (paired_text (text_of big (drop at raw)) (scalars-text_of big (drop at raw) rest)) in
    let first = paired_front false false (units_of big (take size (drop at raw))) _ paired in
    absurd (stops long first.0 first.1))
    (cases_lt (length raw) (at + size))
