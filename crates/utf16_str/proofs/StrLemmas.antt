-- The characters of a `str`, one by one.
use Rattle.std.proofs.Common.{◌≡◌, ℕ, Bool, true, false, not, List, Option, None, Some, [], ◌∷◌, ◌++◌, ◌↔◌, ap, ◌∙◌, append-nil, encode_utf8, length, refl, slice_get, sym}
use Rattle.std.proofs.lemmas.List.{nil_from_length}
use Rattle.std.proofs.lemmas.List.Elements.{All-cons, All-nil}
use Rattle.std.proofs.lemmas.Str.{chars-append, chars-encodes, chars-nil}
use Rattle.std.specs.Char.{IsScalar}
use Rattle.std.specs.Option.{MatchOption, is_some}
use Rattle.std.specs.Prelude.{chars}
use Rattle.std.specs.Str.{all_scalars}
use Rattle.utf16_units.proofs.EncodingLemmas.{all_scalars-from_All}

one : (c : ℕ) → IsScalar c → all_scalars (c ∷ []) ≡ true
one c scalar = all_scalars-from_All (c ∷ []) (All-cons IsScalar c [] scalar (All-nil IsScalar))

-- the characters of a character's bytes followed by other bytes
pub chars-char : (c : ℕ) (rest : List ℕ) → IsScalar c → chars (encode_utf8 c ++ rest) ≡ c ∷ chars rest
chars-char c rest scalar =
    let alone : encode_utf8 c ++ [] ≡ encode_utf8 c = append-nil (encode_utf8 c) in
    chars-append (encode_utf8 c) rest (c ∷ [], (one c scalar, alone))
    ∙ ap (λ t. t ++ chars rest) (ap chars (sym alone) ∙ chars-encodes (c ∷ []) (one c scalar))

-- if a character was decoded from the start of the bytes
pub char_ahead : (c : ℕ) (bytes rest : List ℕ) (r : Option ℕ) (End : Type 0) → IsScalar c → r ≡ Some c → MatchOption r End (λ d. bytes ≡ encode_utf8 d ++ rest)
    → chars bytes ≡ c ∷ chars rest
char_ahead c bytes rest None End scalar some taken = absurd cc
char_ahead c bytes rest (Some d) End scalar some taken =
    let same : d ≡ c = cc in
    ap chars (taken ∙ ap (λ x. encode_utf8 x ++ rest) same) ∙ chars-char c rest scalar

-- if none was left
pub none_ahead : (bytes : List ℕ) (r : Option ℕ) (Same : Type 0) (Taken : ℕ → Type 0) → MatchOption r ((length bytes ≡ 0) × Same) Taken → r ≡ slice_get (chars bytes) 0
    → (r ≡ None) ↔ ([] ≡ chars bytes)
none_ahead bytes None Same Taken end first = (λ none. sym (ap chars (nil_from_length bytes end.0) ∙ chars-nil), λ none. refl)
none_ahead bytes (Some d) Same Taken end first = (λ none. absurd cc, λ none. absurd (cc (first ∙ ap (λ t. slice_get t 0) (sym none))))

pub none_test : (r : Option ℕ) (none : Bool) → is_some r ≡ not none → (none ≡ true) ↔ (r ≡ None)
none_test None true e = (λ yes. refl, λ is. refl)
none_test None false e = absurd cc
none_test (Some d) true e = absurd cc
none_test (Some d) false e = (λ yes. absurd cc, λ is. absurd cc)
