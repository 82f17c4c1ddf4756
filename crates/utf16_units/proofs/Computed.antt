-- The computed forms of the longest valid prefix and of the error length give the only values that
-- their relations allow.
use Rattle.std.proofs.Common.{◌≡◌, ℕ, zero, suc, ◌<◌, ◌≤◌, Bool, true, false, ◌&&◌, cond, List, [], ◌∷◌, length, take, drop, Option, None, Some, refl, sym, ap, ap₂, ◌∙◌, subst, ⊎_elim, arith, leb-true, le-leb, true≢false}
use Rattle.std.proofs.lemmas.Bool.{cases_lt, cases_Bool}
use Rattle.std.proofs.lemmas.Bool.{and_parts}
use Rattle.utf16_units.specs.Encoding.{IsUtf16, is_utf16}
use Rattle.utf16_units.specs.IllFormed.{IsIncomplete, IsErrorLen, IsIllFormed, IsUtf16ValidUpTo, ill_formed_len, valid_len, valid_len_within, is_incomplete}
use Rattle.utf16_units.proofs.EncodingLemmas.{IsUtf16-nil, IsUtf16-from_is_utf16, is_utf16-from_IsUtf16}
use Rattle.utf16_units.proofs.IllFormedLemmas.{IsUtf16ValidUpTo-unique}

-- n is the longest valid prefix of at most `limit` bytes
record IsFrontWithin (big : Bool) (bytes : List ℕ) (limit n : ℕ) : Type 0 where
  within : n ≤ limit
  valid : IsUtf16 big (take n bytes)
  longest : (m : ℕ) → m ≤ limit → IsUtf16 big (take m bytes) → m ≤ n

valid_len_within-is : (big : Bool) (bytes : List ℕ) (limit : ℕ) → IsFrontWithin big bytes limit (valid_len_within big bytes limit)
unfolding valid_len_within
valid_len_within-is big bytes zero = record { within = omega arith; valid = IsUtf16-nil big; longest = λ m le t. le }
valid_len_within-is big bytes (suc limit) =
    let shorter = valid_len_within-is big bytes limit in
    let n = valid_len_within big bytes limit in
    let chosen = λ (t : Bool). cond t (suc limit) n in
    ⊎_elim
    (λ (yes : is_utf16 big (take (suc limit) bytes) ≡ true).
    subst (IsFrontWithin big bytes (suc limit)) (ap chosen (sym yes)) (record {
      within = omega arith;
      valid = IsUtf16-from_is_utf16 big (take (suc limit) bytes) yes;
      longest = λ m le t. le;
    }))
    (λ (no : is_utf16 big (take (suc limit) bytes) ≡ false).
    subst (IsFrontWithin big bytes (suc limit)) (ap chosen (sym no)) (record {
      within = omega (arith, shorter.within);
      valid = shorter.valid;
      longest = λ m le t. ⊎_elim
          (λ (past : limit < m).
          let same : m ≡ suc limit = omega arith in
          let passes : is_utf16 big (take (suc limit) bytes) ≡ true =
          is_utf16-from_IsUtf16 big (take (suc limit) bytes) (subst (λ k. IsUtf16 big (take k bytes)) same t) in
          absurd (true≢false (sym passes ∙ no)))
          (λ (below : m ≤ limit). shorter.longest m below t)
          (cases_lt limit m);
    }))
    (cases_Bool (is_utf16 big (take (suc limit) bytes)))

-- the computed prefix is the longest valid one
pub IsUtf16ValidUpTo-valid_len : (big : Bool) (bytes : List ℕ) → IsUtf16ValidUpTo big bytes (valid_len big bytes)
unfolding valid_len
IsUtf16ValidUpTo-valid_len big bytes =
    let found = valid_len_within-is big bytes (length bytes) in
    record { within = found.within; valid = found.valid; longest = found.longest }

-- and the only one. No proof cites this: it relates the computed `front` to its relation
pub valid_len-unique : (big : Bool) (bytes : List ℕ) (n : ℕ) → IsUtf16ValidUpTo big bytes n → n ≡ valid_len big bytes
valid_len-unique big bytes n f = IsUtf16ValidUpTo-unique big bytes n (valid_len big bytes) f (IsUtf16ValidUpTo-valid_len big bytes)

-- `is_incomplete` computes `IsIncomplete`
pub IsIncomplete-from_is_incomplete : (big : Bool) (rest : List ℕ) → is_incomplete big rest ≡ true → IsIncomplete big rest
unfolding is_incomplete
IsIncomplete-from_is_incomplete big [] e = absurd (true≢false (sym e))
IsIncomplete-from_is_incomplete big (last ∷ []) e = tt
IsIncomplete-from_is_incomplete big (first ∷ second ∷ after) e =
    let parts = and_parts _ _ e in
    let class = and_parts _ _ parts.0 in
    ((leb-true _ _ class.0, leb-true _ _ class.1), leb-true _ _ parts.1)

pub is_incomplete-from_IsIncomplete : (big : Bool) (rest : List ℕ) → IsIncomplete big rest → is_incomplete big rest ≡ true
unfolding is_incomplete
is_incomplete-from_IsIncomplete big [] cut = absurd cut
is_incomplete-from_IsIncomplete big (last ∷ []) cut = refl
is_incomplete-from_IsIncomplete big (first ∷ second ∷ after) cut =
    ap₂ (λ x y. x && y)
    (ap₂ (λ x y. x && y) (le-leb _ _ cut.0.0) (le-leb _ _ cut.0.1))
    (le-leb _ _ cut.1)

-- the length of an ill-formed sequence, computed
error_len_of : Bool → Option ℕ
error_len_of cut = cond cut None (Some 2)

IsErrorLen-computed : (big : Bool) (rest : List ℕ) → IsErrorLen big rest (error_len_of (is_incomplete big rest))
unfolding error_len_of
IsErrorLen-computed big rest = ⊎_elim
    (λ (yes : is_incomplete big rest ≡ true). subst (λ t. IsErrorLen big rest (error_len_of t)) (sym yes) (IsIncomplete-from_is_incomplete big rest yes))
    (λ (no : is_incomplete big rest ≡ false). subst (λ t. IsErrorLen big rest (error_len_of t)) (sym no)
    (refl, λ cut. absurd (true≢false (sym (is_incomplete-from_IsIncomplete big rest cut) ∙ no))))
    (cases_Bool (is_incomplete big rest))

IsErrorLen-unique : (big : Bool) (rest : List ℕ) (x y : Option ℕ) → IsErrorLen big rest x → IsErrorLen big rest y → x ≡ y
IsErrorLen-unique big rest None None h k = refl
IsErrorLen-unique big rest None (Some n) h k = absurd (k.1 h)
IsErrorLen-unique big rest (Some n) None h k = absurd (h.1 k)
IsErrorLen-unique big rest (Some n) (Some m) h k = ap Some (h.0 ∙ sym k.0)

-- the computed error length is right
pub IsIllFormed-computed : (big : Bool) (bytes : List ℕ) → ¬ (IsUtf16 big bytes) → IsIllFormed big bytes (ill_formed_len big bytes)
unfolding ill_formed_len error_len_of
IsIllFormed-computed big bytes refused = record {
  ill_formed = refused;
  valid_up_to = valid_len big bytes;
  front = IsUtf16ValidUpTo-valid_len big bytes;
  at_front = IsErrorLen-computed big (drop (valid_len big bytes) bytes);
}

-- and the only one. No proof cites this: it relates the computed `fault` to its relation
pub ill_formed_len-unique : (big : Bool) (bytes : List ℕ) (error_len : Option ℕ) → IsIllFormed big bytes error_len → error_len ≡ ill_formed_len big bytes
ill_formed_len-unique big bytes error_len f =
    let other = IsIllFormed-computed big bytes f.ill_formed in
    let same : f.valid_up_to ≡ other.valid_up_to = IsUtf16ValidUpTo-unique big bytes f.valid_up_to other.valid_up_to f.front other.front in
    IsErrorLen-unique big (drop other.valid_up_to bytes) error_len (ill_formed_len big bytes)
    (subst (λ n. IsErrorLen big (drop n bytes) error_len) same f.at_front) other.at_front
