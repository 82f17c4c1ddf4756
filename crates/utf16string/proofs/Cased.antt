-- The characters of a text in lower or upper case, and their code units.
use Rattle.std.proofs.Common.{◌≡◌, ℕ, ◌+◌, ◌-◌, ◌<◌, ◌≤◌, ◌/◌, ◌%◌, Bool, List, [], ◌∷◌, All, map, sym, ap, ap₂, ◌∙◌, subst, arith, ⊎_elim}
use Rattle.std.proofs.Math.Utf8.{low_scalar}
use Rattle.std.proofs.lemmas.Bool.{cases_lt}
use Rattle.std.proofs.lemmas.Bool.Decides.{nat_tests}
use Rattle.std.proofs.lemmas.List.Elements.{All-cons, All-head, All-nil, All-tail}
use Rattle.std.proofs.str.Utf16.{one_unit, two_units}
use Rattle.std.specs.Char.{IsScalar}
use Rattle.std.specs.Char.Escape.{encode_utf16}
use Rattle.utf16_units.specs.Encoding.{Encodes}
use Rattle.utf16string.specs.AsciiCase.{in_case}
use Rattle.utf16string.specs.declared.wstring.ascii.AsciiCase.{AsciiCase}
use Rattle.utf16string.specs.declared.wstring.ascii.AsciiCase.TheVariants.{Lower, Upper}
use Rattle.utf16string.proofs.ChangedUnits.{changed, changed-encode}

-- a letter stays a character of one unit, and anything else stays
in_case-low : (case : AsciiCase) (c : ℕ) → c < 123 → in_case case c < 0xD800
in_case-low Lower c low = grind (arith, nat_tests)
in_case-low Upper c low = grind (arith, nat_tests)

in_case-high : (case : AsciiCase) (c : ℕ) → 123 ≤ c → in_case case c ≡ c
in_case-high Lower c high = grind (arith, nat_tests)
in_case-high Upper c high = grind (arith, nat_tests)

in_case-alike : (case : AsciiCase) (c : ℕ) → encode_utf16 (in_case case c) ≡ map (in_case case) (encode_utf16 c)
in_case-alike case c = ⊎_elim
    (λ (low : c < 123). one_unit (in_case case c) (omega (arith, in_case-low case c low)) ∙ sym (ap (map (in_case case)) (one_unit c (omega arith))))
    (λ (high : 123 ≤ c). ⊎_elim
    (λ (one : c < 0x1_0000). one_unit (in_case case c) (omega (arith, in_case-high case c high)) ∙ sym (ap (map (in_case case)) (one_unit c one)))
    (λ (two : 0x1_0000 ≤ c).
    let lead = 0xD800 + (c - 0x1_0000) / 0x400 in
    let trail = 0xDC00 + (c - 0x1_0000) % 0x400 in
    ap encode_utf16 (in_case-high case c high) ∙ two_units c two
    ∙ sym (ap (map (in_case case)) (two_units c two) ∙ ap₂ (λ x y. x ∷ y ∷ []) (in_case-high case lead (omega arith)) (in_case-high case trail (omega arith))))
    (cases_lt c 0x1_0000))
    (cases_lt c 123)

in_case-scalar : (case : AsciiCase) (c : ℕ) → IsScalar c → IsScalar (in_case case c)
in_case-scalar case c scalar = ⊎_elim
    (λ (low : c < 123). low_scalar (in_case case c) (in_case-low case c low))
    (λ (high : 123 ≤ c). subst IsScalar (sym (in_case-high case c high)) scalar)
    (cases_lt c 123)

in_case-scalars : (case : AsciiCase) (text : List ℕ) → All IsScalar text → All IsScalar (map (in_case case) text)
in_case-scalars case [] scalars = All-nil IsScalar
in_case-scalars case (c ∷ text) scalars =
    All-cons IsScalar (in_case case c) (map (in_case case) text) (in_case-scalar case c (All-head IsScalar c text scalars)) (in_case-scalars case text (All-tail IsScalar c text scalars))

-- the changed bytes of a text are the bytes of the text in that case
pub Encodes-changed : (case : AsciiCase) (big : Bool) (text bytes new : List ℕ) → Encodes big text bytes → new ≡ changed (in_case case) big bytes → Encodes big (map (in_case case) text) new
Encodes-changed case big text bytes new e is = record {
  scalars = in_case-scalars case text e.scalars;
  spelled = sym (is ∙ sym (ap (changed (in_case case) big) e.spelled) ∙ changed-encode (in_case case) big (in_case-alike case) text);
}
