-- The longest valid prefix: it is UTF-8, and no character begins after it.
use Rattle.std.proofs.Common.{◌≡◌, ℕ, zero, suc, ◌+◌, ◌<◌, ◌≤◌, Bool, true, false, cond, List, ◌++◌, length, take, drop, refl, sym, ap, ◌∙◌, subst, ⊎_elim, arith, length-append, length-drop, take-add, take_all, take_at, true≢false}
use Rattle.std.proofs.lemmas.Bool.{cases_Bool, cases_lt}
use Rattle.std.proofs.lemmas.Str.{IsUtf8-append, IsUtf8-encode, IsUtf8-from_is_utf8, IsUtf8-nil, is_utf8-from_IsUtf8, utf8_valid_len_le}
use Rattle.std.specs.Char.{encode_utf8}
use Rattle.std.specs.Str.{IsUtf8, IsValidUpTo, StartsWithNoChar, is_utf8}
use Rattle.std.specs.Str.Lossy.{utf8_valid_len, valid_len_up_to}
use Rattle.utf8_bytes.specs.Split.{after_valid}
use Rattle.utf8_bytes.proofs.BeginsLemmas.{some_bytes}

module _ (bytes : List ℕ) (m : ℕ) where
  abbrev test : Bool
  test = is_utf8 (take (suc m) bytes)

  at_yes : test ≡ true → valid_len_up_to bytes (suc m) ≡ suc m
  at_yes is = ap (λ b. cond b (suc m) (valid_len_up_to bytes m)) is

  at_no : test ≡ false → valid_len_up_to bytes (suc m) ≡ valid_len_up_to bytes m
  at_no is = ap (λ b. cond b (suc m) (valid_len_up_to bytes m)) is

up_to_valid : (bytes : List ℕ) (m : ℕ) → IsUtf8 (take (valid_len_up_to bytes m) bytes)
up_to_valid bytes zero = IsUtf8-nil
up_to_valid bytes (suc m) = ⊎_elim
    (λ (is : test bytes m ≡ true). subst (λ n. IsUtf8 (take n bytes)) (sym (at_yes bytes m is)) (IsUtf8-from_is_utf8 _ is))
    (λ (isnt : test bytes m ≡ false). subst (λ n. IsUtf8 (take n bytes)) (sym (at_no bytes m isnt)) (up_to_valid bytes m))
    (cases_Bool (test bytes m))

up_to_longest : (bytes : List ℕ) (m k : ℕ) → valid_len_up_to bytes m < k → k ≤ m → ¬ (IsUtf8 (take k bytes))
up_to_longest bytes zero k past within text = omega arith
up_to_longest bytes (suc m) k past within text = ⊎_elim
    (λ (is : test bytes m ≡ true). let all = at_yes bytes m is in omega arith)
    (λ (isnt : test bytes m ≡ false).
    let less = at_no bytes m isnt in
    ⊎_elim
    (λ (below : k < suc m). up_to_longest bytes m k (omega arith) (omega arith) text)
    (λ (all : suc m ≤ k).
    let same : k ≡ suc m = omega arith in
    true≢false (sym (is_utf8-from_IsUtf8 _ (subst (λ n. IsUtf8 (take n bytes)) same text)) ∙ isnt))
    (cases_lt k (suc m)))
    (cases_Bool (test bytes m))

-- the longest valid prefix is UTF-8
pub front_valid : (bytes : List ℕ) → IsUtf8 (take (utf8_valid_len bytes) bytes)
unfolding utf8_valid_len
front_valid bytes = up_to_valid bytes (length bytes)

-- no character begins where a valid prefix ends, if no longer one is valid
none_after : (bytes : List ℕ) (n : ℕ) → n ≤ length bytes → IsUtf8 (take n bytes) → ((k : ℕ) → n < k → k ≤ length bytes → ¬ (IsUtf8 (take k bytes)))
    → StartsWithNoChar (drop n bytes)
none_after bytes n within front longest c rest scalar e =
    let len = length (encode_utf8 c) in
    let left = ap length e ∙ length-append (encode_utf8 c) rest in
    let some = some_bytes c in
    longest (n + len) (omega arith) (omega (arith, length-drop n bytes))
    (subst IsUtf8 (sym (take-add n len bytes ∙ ap (λ b. take n bytes ++ b) (ap (take len) e ∙ take_at (encode_utf8 c) rest len refl)))
    (IsUtf8-append (take n bytes) (encode_utf8 c) front (IsUtf8-encode c scalar)))

pub none_after_valid : (bytes : List ℕ) → StartsWithNoChar (after_valid bytes)
unfolding utf8_valid_len
none_after_valid bytes = none_after bytes (utf8_valid_len bytes) (utf8_valid_len_le bytes) (front_valid bytes) (up_to_longest bytes (length bytes))

pub none_at : (bytes : List ℕ) (n : ℕ) → IsValidUpTo bytes n → StartsWithNoChar (drop n bytes)
none_at bytes n valid = let short = valid.short in none_after bytes n (omega arith) valid.front (λ k past _. valid.longest k past)

-- bytes that are not all valid are valid up to the computed length
pub IsValidUpTo-computed : (bytes : List ℕ) → utf8_valid_len bytes < length bytes → IsValidUpTo bytes (utf8_valid_len bytes)
unfolding utf8_valid_len
IsValidUpTo-computed bytes short = record {
  short = short;
  front = front_valid bytes;
  longest = λ k past text. ⊎_elim
      (λ (within : k < length bytes). up_to_longest bytes (length bytes) k past (omega arith) text)
      (λ (all : length bytes ≤ k).
      up_to_longest bytes (length bytes) (length bytes) short (omega arith)
      (subst IsUtf8 (take_all k bytes all ∙ sym (take_all (length bytes) bytes (omega arith))) text))
      (cases_lt k (length bytes));
}

-- bytes that are valid up to their end are valid
pub all_valid : (bytes : List ℕ) → length bytes ≤ utf8_valid_len bytes → IsUtf8 bytes
all_valid bytes all = subst IsUtf8 (take_all (utf8_valid_len bytes) bytes all) (front_valid bytes)
