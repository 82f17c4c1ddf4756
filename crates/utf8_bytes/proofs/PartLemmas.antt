-- Bytes begin with a character, or with an ill-formed subpart, or are a tail, and only one of these
-- holds: more bytes change neither a character nor a subpart.
use Rattle.std.proofs.Common.{◌≡◌, ◌⊎◌, ℕ, ◌+◌, ◌-◌, ◌<◌, ◌≤◌, List, [], ◌++◌, None, Some, length, take, drop, refl, sym, ap, ◌∙◌, subst, arith, append_assoc, append-nil, length-append, take-add, take_at, drop_at}
use Rattle.std.proofs.lemmas.Str.{encode_same}
use Rattle.std.specs.Char.{encode_utf8}
use Rattle.std.specs.Str.{StartsWithNoChar}
use Rattle.std.specs.Str.Lossy.{utf8_error_len}
use Rattle.utf8_bytes.specs.Split.{IsSubpart, IsTail}
use Rattle.utf8_bytes.proofs.TableLemmas.{Begins, Part, char, subpart, tail}
use Rattle.utf8_bytes.proofs.BeginsLemmas.{begins, no_bytes}

-- a part, the bytes that decide it, others, and more
assoc : (part seen rest more : List ℕ) → (part ++ (seen ++ rest)) ++ more ≡ part ++ (seen ++ (rest ++ more))
assoc part seen rest more = append_assoc part (seen ++ rest) more ∙ ap (λ b. part ++ b) (append_assoc seen rest more)

-- a tail does not begin with a character, and its error has no length
pub tail_undecided : (bytes : List ℕ) → IsTail bytes → StartsWithNoChar bytes × (utf8_error_len bytes ≡ None)
tail_undecided bytes is = of (begins bytes) where
  whole : bytes ++ is.more ≡ encode_utf8 is.char ++ []
  whole = is.spelled ∙ sym (append-nil (encode_utf8 is.char))

  of : Begins bytes → StartsWithNoChar bytes × (utf8_error_len bytes ≡ None)
  of (char c rest scalar e) =
      let same = encode_same c is.char (rest ++ is.more) [] (sym (append_assoc (encode_utf8 c) rest is.more) ∙ ap (λ b. b ++ is.more) e ∙ whole) in
      absurd (is.some (no_bytes is.more (omega (arith, ap length same.1, length-append rest is.more))))
  of (subpart part seen rest e p) =
      absurd ((p.then (rest ++ is.more)).no_char is.char [] is.scalar (sym (assoc part seen rest is.more) ∙ ap (λ b. b ++ is.more) e ∙ whole))
  of (tail _ none error) = (none, error)

-- and bytes for which this holds are a tail
pub tail_from : (bytes : List ℕ) → StartsWithNoChar bytes → utf8_error_len bytes ≡ None → IsTail bytes
tail_from bytes none error = of (begins bytes) where
  of : Begins bytes → IsTail bytes
  of (char c rest scalar e) = absurd (none c rest scalar (sym e))
  of (subpart part seen rest e p) =
      let same : None ≡ Some (length part) = sym error ∙ ap utf8_error_len (sym e) ∙ (p.then rest).len in
      absurd (cc)
  of (tail is _ _) = is

-- if bytes do not begin with a character and the error has a length, their first `len` bytes are an
-- ill-formed subpart, whatever follows; they begin a character, or are one byte, and no longer
-- prefix begins a character
pub record Subpart (bytes : List ℕ) (len : ℕ) : Type 0 where
  pub some : 0 < len
  pub few : len ≤ 3
  pub within : len ≤ length bytes
  pub begins : IsTail (take len bytes) ⊎ (len ≡ 1)
  pub longest : (n : ℕ) → len < n → n ≤ length bytes → ¬ (IsTail (take n bytes))
  pub here : IsSubpart (take len bytes) (drop len bytes)
  pub then : (more : List ℕ) → IsSubpart (take len bytes) (drop len bytes ++ more)

-- a prefix that is longer than the part has the bytes that decide it
longer : (part seen rest : List ℕ) (n : ℕ) → length part + length seen ≤ n → (more : List ℕ) × (take n (part ++ (seen ++ rest)) ≡ part ++ (seen ++ more))
longer part seen rest n long =
    let p = length part in
    let s = length seen in
    let j = n - (p + s) in
    let same : n ≡ p + (s + j) = omega arith in (
      take j rest,
      ap (λ k. take k (part ++ (seen ++ rest))) same ∙ take-add p (s + j) (part ++ (seen ++ rest))
          ∙ ap (λ b. b ++ take (s + j) (drop p (part ++ (seen ++ rest)))) (take_at part (seen ++ rest) p refl)
          ∙ ap (λ b. part ++ take (s + j) b) (drop_at part (seen ++ rest) p refl)
          ∙ ap (λ b. part ++ b) (take-add s j (seen ++ rest) ∙ ap (λ b. b ++ take j (drop s (seen ++ rest))) (take_at seen rest s refl))
          ∙ ap (λ b. part ++ (seen ++ take j b)) (drop_at seen rest s refl),
    )

no_longer : (part seen rest : List ℕ) (n : ℕ) → Part part seen → length part < n → ¬ (IsTail (take n (part ++ (seen ++ rest))))
no_longer part seen rest n p past ends =
    let soon = p.soon in
    let cut = longer part seen rest n (omega arith) in
    let same : None ≡ Some (length part) =
    sym (tail_undecided (take n (part ++ (seen ++ rest))) ends).1 ∙ ap utf8_error_len cut.1 ∙ (p.then cut.0).len in
    absurd (cc)

at_part : (part seen rest : List ℕ) → Part part seen → Subpart (part ++ (seen ++ rest)) (length part)
at_part part seen rest p =
    let bytes = part ++ (seen ++ rest) in
    let front : take (length part) bytes ≡ part = take_at part (seen ++ rest) (length part) refl in
    let back : drop (length part) bytes ≡ seen ++ rest = drop_at part (seen ++ rest) (length part) refl in
    let is : (more : List ℕ) → IsSubpart part ((seen ++ rest) ++ more) =
    λ more. subst (IsSubpart part) (sym (append_assoc seen rest more)) (p.then (rest ++ more)) in
    record {
      some = p.some;
      few = p.few;
      within = omega (arith, length-append part (seen ++ rest));
      begins = subst (λ b. IsTail b ⊎ (length part ≡ 1)) (sym front) p.begins;
      longest = λ n past _. no_longer part seen rest n p past;
      here = subst (λ b. IsSubpart b (drop (length part) bytes)) (sym front) (subst (IsSubpart part) (sym back) (p.then rest));
      then = λ more. subst (λ b. IsSubpart b (drop (length part) bytes ++ more)) (sym front) (subst (λ b. IsSubpart part (b ++ more)) (sym back) (is more));
    }

pub subpart_at : (bytes : List ℕ) (len : ℕ) → StartsWithNoChar bytes → utf8_error_len bytes ≡ Some len → Subpart bytes len
subpart_at bytes len none error = of (begins bytes) where
  of : Begins bytes → Subpart bytes len
  of (char c rest scalar e) = absurd (none c rest scalar (sym e))
  of (subpart part seen rest e p) =
      let same : Some (length part) ≡ Some len = sym (p.then rest).len ∙ ap utf8_error_len e ∙ error in
      let long : length part ≡ len = cc in
      subst (Subpart bytes) long (subst (λ b. Subpart b (length part)) e (at_part part seen rest p))
  of (tail _ _ undecided) =
      let same : None ≡ Some len = sym undecided ∙ error in
      absurd (cc)

-- an ill-formed subpart stays one with more bytes after it, and has one to three bytes
module _ (part rest : List ℕ) (is : IsSubpart part rest) where
  at_bytes : Subpart (part ++ rest) (length part)
  at_bytes = subpart_at (part ++ rest) (length part) is.no_char is.len

  pub subpart_len : (0 < length part) × (length part ≤ 3)
  subpart_len = (at_bytes.some, at_bytes.few)

  pub subpart_more : (more : List ℕ) → IsSubpart part (rest ++ more)
  subpart_more more =
      subst (λ p. IsSubpart p (rest ++ more)) (take_at part rest (length part) refl)
      (subst (λ b. IsSubpart (take (length part) (part ++ rest)) (b ++ more)) (drop_at part rest (length part) refl) (at_bytes.then more))
