-- The longest valid prefix, and the ill-formed sequence after it.
use Rattle.std.proofs.Common.{◌≡◌, ℕ, suc, ◌+◌, ◌-◌, ◌<◌, ◌≤◌, Bool, List, [], ◌∷◌, ◌++◌, length, take, drop, Option, refl, sym, ap, ◌∙◌, subst, ⊎_elim, arith, append_assoc, length-append, length-take-le, length-drop, take-append-drop, take_at, take_all, take-add}
use Rattle.std.proofs.lemmas.List.{take_rest}
use Rattle.std.proofs.lemmas.Bool.{cases_lt}
use Rattle.std.proofs.lemmas.List.Elements.{All-head}
use Rattle.std.specs.Char.{IsScalar}
use Rattle.utf16_units.specs.Encoding.{char_bytes, encode, Encodes, IsUtf16}
use Rattle.utf16_units.specs.IllFormed.{BeginsWithChar, BeginsWithNoChar, IsIllFormed, IsIllFormedAt, IsUtf16ValidUpTo}
use Rattle.utf16_units.proofs.EncodingLemmas.{encode-nil, encode-cons, IsUtf16-append, IsUtf16-char, IsUtf16-rest}

-- the bytes from an offset on, as `&bytes[at..]` gives them
abbrev pub rest_from : List ℕ → ℕ → List ℕ
rest_from bytes at = take (length bytes - at) (drop at bytes)

-- if no character begins here, only the empty prefix is well formed
pub no_text_begins : (big : Bool) (rest : List ℕ) (n : ℕ) → BeginsWithNoChar big rest → n ≤ length rest → IsUtf16 big (take n rest) → n ≡ 0
no_text_begins big rest n none within t = at_text t.text t.encodes where
  at_text : (text : List ℕ) → Encodes big text (take n rest) → n ≡ 0
  at_text [] e = sym (length-take-le n rest within) ∙ ap length (sym e.spelled ∙ encode-nil big)
  at_text (c ∷ text) e =
      absurd (none c (encode big text ++ drop n rest) (All-head IsScalar c text e.scalars)
      (sym (take-append-drop n rest) ∙ ap (λ t. t ++ drop n rest) (sym e.spelled ∙ encode-cons big c text)
      ∙ append_assoc (char_bytes big c) (encode big text) (drop n rest)))

pub take-past : (front rest : List ℕ) (n : ℕ) → take (length front + n) (front ++ rest) ≡ front ++ take n rest
take-past [] rest n =
    let same : 0 + n ≡ n = omega arith in
    ap (λ k. take k rest) same
take-past (x ∷ front) rest n =
    let same : suc (length front) + n ≡ suc (length front + n) = omega arith in
    ap (λ k. take k (x ∷ (front ++ rest))) same ∙ ap (λ t. x ∷ t) (take-past front rest n)

-- well-formed bytes after which no character begins are the longest valid prefix
pub IsUtf16ValidUpTo-before : (big : Bool) (front rest : List ℕ) → IsUtf16 big front → BeginsWithNoChar big rest → IsUtf16ValidUpTo big (front ++ rest) (length front)
IsUtf16ValidUpTo-before big front rest t none =
    let long = length-append front rest in
    record {
      within = omega arith;
      valid = subst (IsUtf16 big) (sym (take_at front rest (length front) refl)) t;
      longest = λ m within valid. ⊎_elim
          (λ (past : length front < m).
          let n = m - length front in
          let same : m ≡ length front + n = omega arith in
          let split : take m (front ++ rest) ≡ front ++ take n rest = ap (λ k. take k (front ++ rest)) same ∙ take-past front rest n in
          let zero_n : n ≡ 0 = no_text_begins big rest n none (omega arith) (IsUtf16-rest big front (take n rest) t (subst (IsUtf16 big) split valid)) in
          omega arith)
          (λ (le : m ≤ length front). le)
          (cases_lt (length front) m);
    }

-- there is only one longest valid prefix
pub IsUtf16ValidUpTo-unique : (big : Bool) (bytes : List ℕ) (m n : ℕ) → IsUtf16ValidUpTo big bytes m → IsUtf16ValidUpTo big bytes n → m ≡ n
IsUtf16ValidUpTo-unique big bytes m n f g =
    let le : m ≤ n = g.longest m f.within f.valid in
    let ge : n ≤ m = f.longest n g.within g.valid in
    omega arith

-- well-formed bytes up to an offset, at which no character begins, are the longest valid prefix
pub IsUtf16ValidUpTo-at : (big : Bool) (bytes : List ℕ) (n : ℕ) → n ≤ length bytes → IsUtf16 big (take n bytes) → BeginsWithNoChar big (drop n bytes) → IsUtf16ValidUpTo big bytes n
IsUtf16ValidUpTo-at big bytes n within t none =
    subst (λ m. IsUtf16ValidUpTo big bytes m) (length-take-le n bytes within)
    (subst (λ b. IsUtf16ValidUpTo big b (length (take n bytes))) (take-append-drop n bytes) (IsUtf16ValidUpTo-before big (take n bytes) (drop n bytes) t none))

-- bytes whose longest valid prefix is shorter than they are ill-formed
pub not_IsUtf16-front : (big : Bool) (bytes : List ℕ) (n : ℕ) → IsUtf16ValidUpTo big bytes n → n < length bytes → ¬ (IsUtf16 big bytes)
not_IsUtf16-front big bytes n f short t =
    let all : take (length bytes) bytes ≡ bytes = take_all (length bytes) bytes (omega arith) in
    let le : length bytes ≤ n = f.longest (length bytes) (omega arith) (subst (IsUtf16 big) (sym all) t) in
    absurd (omega arith)

-- one more character after well-formed bytes
pub IsUtf16-step : (big : Bool) (bytes : List ℕ) (at n : ℕ) → at ≤ length bytes → IsUtf16 big (take at bytes)
    → BeginsWithChar big (rest_from bytes at) n → (at + n ≤ length bytes) × IsUtf16 big (take (at + n) bytes)
IsUtf16-step big bytes at n within t begins =
    let long : length (rest_from bytes at) ≡ length bytes - at = ap length (take_rest bytes at) ∙ length-drop at bytes in
    let char : take n (drop at bytes) ≡ char_bytes big begins.char = ap (take n) (sym (take_rest bytes at)) ∙ begins.spelled in
    (omega arith, subst (IsUtf16 big) (ap (λ t. take at bytes ++ t) (sym char) ∙ sym (take-add at n bytes)) (IsUtf16-append big (take at bytes) (char_bytes big begins.char) t (IsUtf16-char big begins.char begins.scalar)))

module _ (big : Bool) (bytes : List ℕ) (at : ℕ) (error_len : Option ℕ) (within : at < length bytes) (t : IsUtf16 big (take at bytes))
    (found : IsIllFormedAt big (rest_from bytes at) error_len) where
  here : IsIllFormedAt big (drop at bytes) error_len
  here = subst (λ rest. IsIllFormedAt big rest error_len) (take_rest bytes at) found

  ends : IsUtf16ValidUpTo big bytes at
  ends = IsUtf16ValidUpTo-at big bytes at (omega arith) t here.0

  -- an ill-formed sequence after well-formed bytes is at the end of the longest valid prefix
  pub faults : IsUtf16ValidUpTo big bytes at × IsIllFormed big bytes error_len
  faults = (ends, record { ill_formed = not_IsUtf16-front big bytes at ends within; valid_up_to = at; front = ends; at_front = here.1 })
