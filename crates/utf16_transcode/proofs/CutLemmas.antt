-- UTF-8 that is cut after an ill-formed sequence: in the shorter bytes the sequence has the same
-- length, and its text is U+FFFD.
use Rattle.std.proofs.Common.{◌≡◌, ℕ, zero, suc, ◌+◌, ◌<◌, ◌≤◌, List, [], ◌∷◌, Option, length, take, drop, refl, sym, ap, ◌∙◌, subst, ⊎_elim, arith, length-take, take_all, take-take}
use Rattle.std.specs.Prelude.{min, slice_index, if◌then◌else◌}
use Rattle.std.proofs.lemmas.Bool.{cases_lt}
use Rattle.std.proofs.lemmas.Bool.Decides.{nat_tests}
use Rattle.std.proofs.lemmas.List.{drop-take}
use Rattle.std.specs.Int.{is_in_range}
use Rattle.std.specs.Option.{unwrap_or}
use Rattle.std.specs.Str.{IsUtf8, IsValidUpTo}
use Rattle.std.specs.Str.Lossy.{second_byte_max, second_byte_min, utf8_error_len, utf8_invalid_len}
use Rattle.utf16_transcode.specs.FromUtf8.{IsIllFormedUtf8, text_of_utf8}
use Rattle.utf16_transcode.proofs.EncodeLossyLemmas.{text-fault}

-- the length of an ill-formed sequence, by its first three bytes
abbrev told : List ℕ → ℕ
told bytes =
    let first = slice_index bytes 0 in
    let second = is_in_range (second_byte_min first) (second_byte_max first) (slice_index bytes 1) in
    if is_in_range 0xC2 0xF4 first then (if second then (if is_in_range 0x80 0xBF (slice_index bytes 2) then 3 else 2) else 1) else 1

invalid_len-told : (bytes : List ℕ) → utf8_invalid_len bytes ≡ min (length bytes) (told bytes)
unfolding utf8_error_len
invalid_len-told bytes = grind (arith, nat_tests)

told-take : (k : ℕ) (bytes : List ℕ) → min k (told (take k bytes)) ≡ min k (told bytes)
told-take zero bytes = omega arith
told-take (suc k) [] = refl
told-take (suc zero) (x ∷ more) = grind arith
told-take (suc (suc k)) (x ∷ []) = refl
told-take (suc (suc zero)) (x ∷ y ∷ more) = grind arith
told-take (suc (suc (suc k))) (x ∷ y ∷ []) = refl
told-take (suc (suc (suc k))) (x ∷ y ∷ z ∷ more) = refl

-- an ill-formed sequence has the same length in any prefix that has all of it, and is all of a
-- shorter prefix
invalid_len-take : (k : ℕ) (bytes : List ℕ) → utf8_invalid_len (take k bytes) ≡ min k (utf8_invalid_len bytes)
invalid_len-take k bytes = omega (arith, invalid_len-told (take k bytes), invalid_len-told bytes, length-take k bytes, told-take k bytes)

-- the longest valid prefix of a longer prefix
valid-take : (bytes : List ℕ) (n k : ℕ) → n < k → IsValidUpTo bytes n → IsValidUpTo (take k bytes) n
valid-take bytes n k more valid = record {
  short = let short = valid.short in omega (arith, length-take k bytes);
  front = subst IsUtf8 (sym (take-take n k bytes (omega arith))) valid.front;
  longest = λ m past text. ⊎_elim
      (λ (less : m < k). valid.longest m past (subst IsUtf8 (take-take m k bytes (omega arith)) text))
      (λ (all : k ≤ m). valid.longest k more (subst IsUtf8 (take_all m (take k bytes) (omega (arith, length-take k bytes))) text))
      (cases_lt m k);
}

pub text-cut : (bytes : List ℕ) (n : ℕ) (error_len : Option ℕ) (len : ℕ) → IsIllFormedUtf8 bytes n error_len
    → len ≡ unwrap_or error_len (length (drop n bytes)) → 0 < len
    → (m : ℕ) → text_of_utf8 (take (len + m) (drop n bytes)) ≡ 0xFFFD ∷ text_of_utf8 (take m (drop len (drop n bytes)))
text-cut bytes n error_len len fault is some m =
    let rest = drop n bytes in
    let front = take (n + (len + m)) bytes in
    let cut = drop-take n (len + m) bytes in
    let same : utf8_invalid_len (take (len + m) rest) ≡ len = omega (arith, is ∙ ap (λ o. unwrap_or o (length rest)) fault.1, invalid_len-take (len + m) rest) in
    ap text_of_utf8 (sym cut) ∙ text-fault front n (utf8_error_len (drop n front)) (valid-take bytes n (n + (len + m)) (omega (arith, some)) fault.0, refl)
    ∙ ap (λ b. 0xFFFD ∷ text_of_utf8 (drop (utf8_invalid_len b) b)) cut ∙ ap (λ k. 0xFFFD ∷ text_of_utf8 (drop k (take (len + m) rest))) same
    ∙ ap (λ b. 0xFFFD ∷ text_of_utf8 b) (drop-take len m rest)
