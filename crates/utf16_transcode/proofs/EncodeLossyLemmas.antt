-- The lossy text of any bytes, with U+FFFD for what is not UTF-8: after a valid prefix, and at an
-- ill-formed sequence.
use Rattle.std.proofs.Common.{◌≡◌, ℕ, zero, suc, ◌+◌, ◌*◌, ◌<◌, ◌≤◌, Bool, true, false, cond, List, [], ◌∷◌, ◌++◌, Option, length, take, drop, refl, sym, ap, ap₂, ◌∙◌, subst, ⊎_elim, arith, append-nil, append_assoc, drop_at, length-append, take_at, take-append-drop}
use Rattle.std.proofs.lemmas.Bool.{cases_lt, cond-true}
use Rattle.std.proofs.lemmas.List.{append_cancel_left, drop-drop}
use Rattle.std.proofs.lemmas.Str.{IsUtf8-append, IsUtf8-from_is_utf8, chars-append, is_utf8-from_IsUtf8, utf8_lossy_chunk, utf8_lossy_empty, utf8_lossy_last_chunk, utf8_lossy_step, utf8_lossy-IsUtf8, utf8_valid_len_le, utf8_valid_len-IsValidUpTo}
use Rattle.std.specs.Option.{unwrap_or}
use Rattle.std.specs.Str.{IsUtf8, chars, is_utf8}
use Rattle.std.specs.Str.Lossy.{after_first_chunk, replacement_bytes, utf8_invalid_len, utf8_lossy, utf8_valid_len, valid_len_up_to}
use Rattle.utf16_units.proofs.SizeLemmas.{size-le}
use Rattle.utf16_units.specs.Encoding.{size}
use Rattle.utf16_units.proofs.EncodingLemmas.{size-append, size-cons, size-nil}
use Rattle.utf16_units.proofs.IllFormedLemmas.{take-past}
use Rattle.utf16_transcode.proofs.FromUtf8Lemmas.{IsUtf8-behind}
use Rattle.utf16_transcode.specs.FromUtf8.{IsIllFormedUtf8, text_of_utf8}

-- two tests are equal if each passes when the other does
same_test : (a b : Bool) → (a ≡ true → b ≡ true) → (b ≡ true → a ≡ true) → a ≡ b
same_test true b there back = sym (there refl)
same_test false true there back = back refl
same_test false false there back = refl

is_utf8-behind : (front back : List ℕ) → IsUtf8 front → is_utf8 (front ++ back) ≡ is_utf8 back
is_utf8-behind front back first = same_test _ _
    (λ all. is_utf8-from_IsUtf8 back (IsUtf8-behind front back first (IsUtf8-from_is_utf8 _ all)))
    (λ last. is_utf8-from_IsUtf8 _ (IsUtf8-append front back first (IsUtf8-from_is_utf8 back last)))

drop-past : (front rest : List ℕ) (n : ℕ) → drop (length front + n) (front ++ rest) ≡ drop n rest
drop-past front rest n = sym (drop-drop n (length front) (front ++ rest)) ∙ ap (drop n) (drop_at front rest (length front) refl)

-- ---- the longest valid prefix

whole_up_to : (bytes : List ℕ) (n : ℕ) → IsUtf8 (take n bytes) → valid_len_up_to bytes n ≡ n
whole_up_to bytes zero text = refl
whole_up_to bytes (suc n) text = cond-true _ _ _ (is_utf8-from_IsUtf8 _ text)

cond-plus : (b : Bool) (n x y : ℕ) → cond b (n + x) (n + y) ≡ n + cond b x y
cond-plus true n x y = refl
cond-plus false n x y = refl

module _ (front back : List ℕ) (first : IsUtf8 front) where
  abbrev all : List ℕ
  all = front ++ back

  abbrev len : ℕ
  len = length front

  up_to-behind : (m : ℕ) → valid_len_up_to all (len + m) ≡ len + valid_len_up_to back m
  up_to-behind zero =
      ap (valid_len_up_to all) (omega arith) ∙ whole_up_to all len (subst IsUtf8 (sym (take_at front back len refl)) first) ∙ omega arith
  up_to-behind (suc m) =
      let next : len + suc m ≡ suc (len + m) = omega arith in
      let text : is_utf8 (take (suc (len + m)) all) ≡ is_utf8 (take (suc m) back) =
      ap (λ k. is_utf8 (take k all)) (sym next) ∙ ap is_utf8 (take-past front back (suc m)) ∙ is_utf8-behind front (take (suc m) back) first in
      ap (valid_len_up_to all) next
      ∙ ap₂ (λ b k. cond b (suc (len + m)) k) text (up_to-behind m)
      ∙ ap (λ k. cond (is_utf8 (take (suc m) back)) k (len + valid_len_up_to back m)) (sym next)
      ∙ cond-plus (is_utf8 (take (suc m) back)) len (suc m) (valid_len_up_to back m)

  utf8_valid_len-behind : utf8_valid_len all ≡ len + utf8_valid_len back
  unfolding utf8_valid_len
  utf8_valid_len-behind = ap (valid_len_up_to all) (length-append front back) ∙ up_to-behind (length back)

  first_chunk-behind : after_first_chunk all ≡ after_first_chunk back
  first_chunk-behind =
      let n = utf8_valid_len back in
      let more = utf8_invalid_len (drop n back) in
      ap (λ k. drop (k + utf8_invalid_len (drop k all)) all) utf8_valid_len-behind
      ∙ ap (λ left. drop (len + n + utf8_invalid_len left) all) (drop-past front back n)
      ∙ ap (λ k. drop k all) (omega arith)
      ∙ drop-past front back (n + more)

-- ---- the lossy text

lossy-whole : (bytes : List ℕ) → utf8_valid_len bytes ≡ length bytes → utf8_lossy bytes ≡ bytes
lossy-whole bytes whole =
    utf8_lossy_last_chunk bytes bytes [] [] (sym (append-nil bytes)) (sym whole) refl refl
    ∙ ap (λ t. bytes ++ t) (utf8_lossy_empty [] refl) ∙ append-nil bytes

-- UTF-8 before any bytes stays as it is
pub utf8_lossy-behind : (front back : List ℕ) → IsUtf8 front → utf8_lossy (front ++ back) ≡ front ++ utf8_lossy back
utf8_lossy-behind front back first =
    let n = utf8_valid_len back in
    let within = utf8_valid_len_le back in
    let long = utf8_valid_len-behind front back first in
    let size = length-append front back in
    ⊎_elim
    (λ (short : n < length back).
    utf8_lossy_step (front ++ back) (λ whole. omega arith)
    ∙ ap₂ (λ valid left. valid ++ (replacement_bytes ++ utf8_lossy left)) (ap (λ k. take k (front ++ back)) long ∙ take-past front back n) (first_chunk-behind front back first)
    ∙ append_assoc front (take n back) (replacement_bytes ++ utf8_lossy (after_first_chunk back))
    ∙ ap (λ t. front ++ t) (sym (utf8_lossy_step back (λ whole. omega arith))))
    (λ (whole : length back ≤ n).
    lossy-whole (front ++ back) (omega arith) ∙ ap (λ t. front ++ t) (sym (lossy-whole back (omega arith))))
    (cases_lt n (length back))

pub text-empty : (bytes : List ℕ) → length bytes ≡ 0 → text_of_utf8 bytes ≡ []
unfolding chars
text-empty bytes none = ap chars (utf8_lossy_empty bytes none)

-- the bytes of U+FFFD spell it
pub replaced : (bytes : List ℕ) → chars (replacement_bytes ++ bytes) ≡ 0xFFFD ∷ chars bytes
unfolding chars
replaced [] = refl
replaced (b ∷ bytes) = refl

-- after the longest valid prefix comes U+FFFD, and then the text of what follows the ill-formed
-- sequence
pub text-fault : (bytes : List ℕ) (n : ℕ) (error_len : Option ℕ) → IsIllFormedUtf8 bytes n error_len
    → text_of_utf8 (drop n bytes) ≡ 0xFFFD ∷ text_of_utf8 (drop (unwrap_or error_len (length (drop n bytes))) (drop n bytes))
text-fault bytes n error_len fault =
    let front = take n bytes in
    let rest = drop n bytes in
    let len = unwrap_or error_len (length rest) in
    let at = utf8_valid_len-IsValidUpTo bytes n fault.0 in
    let short = fault.0.short in
    let whole : utf8_lossy bytes ≡ front ++ (replacement_bytes ++ utf8_lossy (drop len rest)) =
    utf8_lossy_step bytes (λ all. omega arith)
    ∙ ap (λ k. take k bytes ++ (replacement_bytes ++ utf8_lossy (drop (k + utf8_invalid_len (drop k bytes)) bytes))) at
    ∙ ap (λ o. front ++ (replacement_bytes ++ utf8_lossy (drop (n + unwrap_or o (length rest)) bytes))) (sym fault.1)
    ∙ ap (λ left. front ++ (replacement_bytes ++ utf8_lossy left)) (sym (drop-drop len n bytes)) in
    let split = ap utf8_lossy (sym (take-append-drop n bytes)) ∙ utf8_lossy-behind front rest fault.0.front in
    ap chars (append_cancel_left front (utf8_lossy rest) (replacement_bytes ++ utf8_lossy (drop len rest)) (sym split ∙ whole))
    ∙ replaced (utf8_lossy (drop len rest))

-- ---- the length of an ill-formed sequence

-- the first chunk of the bytes, and what is left
pub text-chunk : (bytes valid invalid rest : List ℕ) → IsUtf8 valid → bytes ≡ valid ++ (invalid ++ rest) → length valid ≡ utf8_valid_len bytes
    → length invalid ≡ utf8_invalid_len (drop (utf8_valid_len bytes) bytes) → 0 < length invalid
    → text_of_utf8 bytes ≡ chars valid ++ 0xFFFD ∷ text_of_utf8 rest
text-chunk bytes valid invalid rest text split front fault some =
    ap chars (utf8_lossy_chunk bytes valid invalid rest split front fault some) ∙ chars-append valid (replacement_bytes ++ utf8_lossy rest) text
    ∙ ap (λ t. chars valid ++ t) (replaced (utf8_lossy rest))

pub size-chunk : (bytes valid invalid rest : List ℕ) → IsUtf8 valid → bytes ≡ valid ++ (invalid ++ rest) → length valid ≡ utf8_valid_len bytes
    → length invalid ≡ utf8_invalid_len (drop (utf8_valid_len bytes) bytes) → 0 < length invalid
    → size (text_of_utf8 bytes) ≡ size (chars valid) + 2 + size (text_of_utf8 rest)
size-chunk bytes valid invalid rest text split front fault some =
    let all = ap size (text-chunk bytes valid invalid rest text split front fault some) ∙ size-append (chars valid) (0xFFFD ∷ text_of_utf8 rest) in
    let replacement = size-cons 0xFFFD (text_of_utf8 rest) in
    omega (arith, all, replacement)

-- the last chunk, after which nothing is ill-formed
pub size-last : (bytes valid invalid rest : List ℕ) → bytes ≡ valid ++ (invalid ++ rest) → length valid ≡ utf8_valid_len bytes
    → length invalid ≡ 0 → length rest ≡ 0 → size (text_of_utf8 bytes) ≡ size (chars valid)
size-last bytes valid invalid rest split front none left =
    ap (λ t. size (chars t)) (utf8_lossy_last_chunk bytes valid invalid rest split front none left
    ∙ ap (λ t. valid ++ t) (utf8_lossy_empty rest left) ∙ append-nil valid)

-- at most two bytes for each byte
pub chunk-most : (bytes valid invalid rest : List ℕ) → IsUtf8 valid → bytes ≡ valid ++ (invalid ++ rest)
    → size (chars valid) + 2 * length invalid + 2 * length rest ≤ 2 * length bytes
chunk-most bytes valid invalid rest text split =
    let all = ap length split ∙ length-append valid (invalid ++ rest) in
    omega (arith, size-le valid text, all, length-append invalid rest)

-- ---- the whole length

-- nothing adds nothing
pub size-empty : (bytes : List ℕ) → length bytes ≡ 0 → size (text_of_utf8 bytes) ≡ 0
size-empty bytes none = ap size (text-empty bytes none) ∙ size-nil

-- UTF-8 stays as it is
pub size-whole : (bytes text : List ℕ) (len : ℕ) → IsUtf8 bytes → text ≡ bytes → len ≡ size (chars text)
    → (len ≡ size (text_of_utf8 bytes)) × (len ≤ 2 * length bytes)
size-whole bytes text len utf8 same is =
    let own = is ∙ ap (λ b. size (chars b)) same in
    (own ∙ ap (λ b. size (chars b)) (sym (utf8_lossy-IsUtf8 bytes utf8)), omega (arith, own, size-le bytes utf8))
