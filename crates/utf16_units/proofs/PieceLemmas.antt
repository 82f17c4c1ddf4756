-- Chunks of a text: one of two adjacent even offsets is a boundary, and the length of a chunk in
-- UTF-8.
use Rattle.std.proofs.Common.{◌≡◌, ℕ, ◌+◌, ◌-◌, ◌%◌, ◌<◌, ◌≤◌, ◌⊎◌, List, [], ◌∷◌, ◌++◌, inl, inr, refl, sym, ap, ◌∙◌, subst, ⊎_elim, arith, append_assoc, encode_utf8_all, length, length-append, ◌*◌}
use Rattle.std.proofs.lemmas.Bool.{cases_lt}
use Rattle.std.specs.Char.{encode_utf8}
use Rattle.utf16_units.specs.Boundary.{IsBoundary}
use Rattle.utf16_units.specs.Encoding.{char_size, size}
use Rattle.utf16_units.proofs.BoundaryLemmas.{IsBoundary-start}
use Rattle.utf16_units.proofs.CharLemmas.{char_size_cases}
use Rattle.utf16_units.proofs.EncodingLemmas.{size-cons, size-nil}
use Rattle.utf16_units.proofs.ShownLemmas.{len_utf8-le}

behind_char : (c : ℕ) (text : List ℕ) (i j : ℕ) → IsBoundary text i → j ≡ char_size c + i → IsBoundary (c ∷ text) j
behind_char c text i j b e = record {
  front = c ∷ b.front;
  back = b.back;
  split = ap (λ t. c ∷ t) b.split;
  offset = size-cons c b.front ∙ ap (λ n. char_size c + n) b.offset ∙ sym e;
}

abbrev Near : List ℕ → ℕ → Type 0
Near text i = IsBoundary text i ⊎ IsBoundary text (i - 2)

pub near_boundary : (text : List ℕ) (i : ℕ) → i % 2 ≡ 0 → 2 ≤ i → i ≤ size text → Near text i
near_boundary [] i even from to = absurd (omega (arith, from, to, size-nil))
near_boundary (c ∷ text) i even from to = ⊎_elim
    (λ (inside : i < char_size c).
    let zero : i - 2 ≡ 0 = ⊎_elim (λ (e : char_size c ≡ 2). omega arith) (λ (e : char_size c ≡ 4). omega arith) (char_size_cases c) in
    inr (subst (IsBoundary (c ∷ text)) (sym zero) (IsBoundary-start (c ∷ text))))
    (λ (past : char_size c ≤ i). ⊎_elim
    (λ (here : i < char_size c + 2).
    let end : i ≡ char_size c + 0 = ⊎_elim (λ (e : char_size c ≡ 2). omega arith) (λ (e : char_size c ≡ 4). omega arith) (char_size_cases c) in
    inl (behind_char c text 0 i (IsBoundary-start text) end))
    (λ (more : char_size c + 2 ≤ i).
    let rest_even : (i - char_size c) % 2 ≡ 0 = ⊎_elim (λ (e : char_size c ≡ 2). omega arith) (λ (e : char_size c ≡ 4). omega arith) (char_size_cases c) in
    ⊎_elim
    (λ (b : IsBoundary text (i - char_size c)). inl (behind_char c text (i - char_size c) i b (omega arith)))
    (λ (b : IsBoundary text (i - char_size c - 2)). inr (behind_char c text (i - char_size c - 2) (i - 2) b (omega arith)))
    (near_boundary text (i - char_size c) rest_even (omega arith) (omega (arith, to, size-cons c text))))
    (cases_lt i (char_size c + 2)))
    (cases_lt i (char_size c))

-- the UTF-8 of two texts concatenated
pub utf8-append : (xs ys : List ℕ) → encode_utf8_all (xs ++ ys) ≡ encode_utf8_all xs ++ encode_utf8_all ys
utf8-append [] ys = refl
utf8-append (c ∷ xs) ys = ap (λ bs. encode_utf8 c ++ bs) (utf8-append xs ys) ∙ sym (append_assoc (encode_utf8 c) (encode_utf8_all xs) (encode_utf8_all ys))

-- a text takes at most one and a half times as many bytes in UTF-8 as in UTF-16
pub encodes-le-size : (text : List ℕ) → 2 * length (encode_utf8_all text) ≤ 3 * size text
encodes-le-size [] = omega (arith, size-nil)
encodes-le-size (c ∷ text) =
    omega (arith, size-cons c text, len_utf8-le c, encodes-le-size text, length-append (encode_utf8 c) (encode_utf8_all text))
