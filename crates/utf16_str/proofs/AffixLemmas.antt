-- Prefixes and suffixes of a text, by its bytes.
use Rattle.std.proofs.Common.{◌≡◌, ℕ, ◌+◌, ◌-◌, ◌%◌, Bool, true, All, ◌↔◌, List, [], ◌∷◌, ◌++◌, length, take, take_all, drop, refl, sym, ap, ◌∙◌, subst, arith, append-nil, length-append, drop_at}
use Rattle.std.proofs.Math.Seq.{take-append_seam}
use Rattle.std.specs.Char.{IsScalar}
use Rattle.utf16_units.specs.Boundary.{IsBoundary, text_between, text_from, text_to}
use Rattle.utf16_units.specs.Encoding.{Encodes, IsUtf16, encode, is_utf16, size, text_of}
use Rattle.utf16_units.proofs.BackChar.{length-even}
use Rattle.utf16_units.proofs.BoundaryLemmas.{text_between-end, text_from-at, text_to-at, text_to-text_from}
use Rattle.utf16_units.proofs.EncodingLemmas.{Encodes-text_of, IsUtf16-encode, IsUtf16-from_Encodes, IsUtf16-from_is_utf16, encode-append, encode-text_of, length-encode, length-text, size-append, text_of-Encodes, text_of-append, text_of-encode}
use Rattle.utf16_units.proofs.LawProofs.{found_exactly}
use Rattle.utf16_units.proofs.PartLemmas.{IsBoundary-seam}
use Rattle.utf16_str.specs.Window.{bytes_between}

module _ (big : Bool) (bytes part : List ℕ) (t : IsUtf16 big bytes) (p : IsUtf16 big part) where
  -- bytes that start with the bytes of a part are a text that starts with the part
  pub text_begins : (rest : List ℕ) → bytes ≡ part ++ rest → text_of big bytes ≡ text_of big part ++ text_of big rest
  text_begins rest e = ap (text_of big) e ∙ text_of-append big part rest p

  pub bytes_begin : (rest : List ℕ) → text_of big bytes ≡ text_of big part ++ rest → bytes ≡ part ++ encode big rest
  bytes_begin rest e =
      sym (encode-text_of big bytes t) ∙ ap (encode big) e ∙ encode-append big (text_of big part) rest
      ∙ ap (λ b. b ++ encode big rest) (encode-text_of big part p)

  pub bytes_end : (front : List ℕ) → text_of big bytes ≡ front ++ text_of big part → bytes ≡ encode big front ++ part
  bytes_end front e =
      sym (encode-text_of big bytes t) ∙ ap (encode big) e ∙ encode-append big front (text_of big part)
      ∙ ap (λ b. encode big front ++ b) (encode-text_of big part p)

  -- and bytes that end with the bytes of a part are a text that ends with the part
  pub text_ends : (front : List ℕ) → bytes ≡ front ++ part → (before : List ℕ) × (text_of big bytes ≡ before ++ text_of big part)
  text_ends front e = by_part (text_of big part) refl where
    by_part : (found : List ℕ) → found ≡ text_of big part → (before : List ℕ) × (text_of big bytes ≡ before ++ text_of big part)
    by_part [] none = (text_of big bytes, sym (append-nil (text_of big bytes)) ∙ ap (λ x. text_of big bytes ++ x) none)
    by_part (c ∷ found) some =
        let long = ap length e ∙ length-append front part in
        let even : length front % 2 ≡ 0 = omega (arith, long, length-even big bytes t, length-even big part p) in
        let behind : drop (length front) bytes ≡ part = ap (drop (length front)) e ∙ drop_at front part (length front) refl in
        let stands = ap (take (length part)) behind ∙ take_all (length part) part (omega arith) in
        let at = (found_exactly big (text_of big bytes) (text_of big part) bytes part (length front)
        (Encodes-text_of big bytes t) (Encodes-text_of big part p) (λ none. absurd (cc (some ∙ none)))).0 (even, stands) in
        let whole : length front + size (text_of big part) ≡ size (text_of big bytes) = omega (arith, long, length-text big bytes t, length-text big part p) in
        let last : text_from (text_of big bytes) (length front) ≡ text_of big part =
        sym (text_between-end (text_of big bytes) (length front) at.start)
        ∙ ap (text_between (text_of big bytes) (length front)) (sym whole) ∙ at.between in
        (text_to (text_of big bytes) (length front), sym (text_to-text_from (text_of big bytes) (length front)) ∙ ap (λ x. text_to (text_of big bytes) (length front) ++ x) last)

-- a text split after a prefix, or before a suffix
pub record IsCutBetween (front back text : List ℕ) (i : ℕ) : Type 0 where
  pub boundary : IsBoundary text i
  pub to : text_to text i ≡ front
  pub from : text_from text i ≡ back

pub cut_between : (front back text : List ℕ) (i : ℕ) → text ≡ front ++ back → size front ≡ i → IsCutBetween front back text i
cut_between front back text i e at = subst (λ t. IsCutBetween front back t i) (sym e) (subst (IsCutBetween front back (front ++ back)) at (record {
  boundary = IsBoundary-seam front back;
  to = text_to-at front back (size front) refl;
  from = text_from-at front back (size front) refl;
}))

-- the bytes after a prefix, and those before a suffix
module _ (big : Bool) (bytes part : List ℕ) (t : is_utf16 big bytes ≡ true) (p : is_utf16 big part ≡ true) where
  pub bytes_after : (front : List ℕ) → text_of big bytes ≡ front ++ text_of big part → part ≡ drop (size front) bytes
  bytes_after front e =
      let is = bytes_end big bytes part (IsUtf16-from_is_utf16 big bytes t) (IsUtf16-from_is_utf16 big part p) front e in
      sym (ap (drop (size front)) is ∙ drop_at (encode big front) part (size front) (length-encode big front))

  -- the same by the lengths
  pub bytes_left : (front : List ℕ) → text_of big bytes ≡ front ++ text_of big part → part ≡ drop (length bytes - length part) bytes
  bytes_left front e =
      let start : size front ≡ length bytes - length part =
      omega (arith, ap size e, size-append front (text_of big part), length-text big bytes (IsUtf16-from_is_utf16 big bytes t), length-text big part (IsUtf16-from_is_utf16 big part p)) in
      bytes_after front e ∙ ap (λ n. drop n bytes) start

  pub bytes_before : (back : List ℕ) → text_of big bytes ≡ text_of big part ++ back → part ≡ take (length part) bytes
  bytes_before back e =
      let is = bytes_begin big bytes part (IsUtf16-from_is_utf16 big bytes t) (IsUtf16-from_is_utf16 big part p) back e in
      sym (ap (take (length part)) is ∙ take-append_seam part (encode big back))

-- a prefix of what is left after a start lies between two offsets
pub bytes_lie : (big : Bool) (bytes middle part : List ℕ) → is_utf16 big bytes ≡ true → is_utf16 big middle ≡ true → middle ≡ drop (length bytes - length middle) bytes
    → part ≡ take (length part) middle → let start = size (text_of big bytes) - size (text_of big middle) in part ≡ bytes_between bytes start (start + length part)
bytes_lie big bytes middle part t m after before =
    let start = size (text_of big bytes) - size (text_of big middle) in
    let cut : length bytes - length middle ≡ start =
    omega (arith, length-text big bytes (IsUtf16-from_is_utf16 big bytes t), length-text big middle (IsUtf16-from_is_utf16 big middle m)) in
    let whole : length part ≡ start + length part - start = omega arith in
    before ∙ ap (take (length part)) (after ∙ ap (λ n. drop n bytes) cut) ∙ ap (λ n. take n (drop start bytes)) whole

-- bytes begin, or end, with the encoding of a part exactly if the text does with the part
module _ (big : Bool) (text bytes part : List ℕ) (e : Encodes big text bytes) (scalars : All IsScalar part) where
  pub prefix_text : ((rest : List ℕ) × (bytes ≡ encode big part ++ rest)) ↔ ((rest : List ℕ) × (text ≡ part ++ rest))
  prefix_text =
      let whole = IsUtf16-from_Encodes big text bytes e in
      let formed = IsUtf16-encode big part scalars in
      let decoded = text_of-Encodes big text bytes e in
      let is = text_of-encode big part scalars in (
        λ begins. (text_of big begins.0, sym decoded ∙ text_begins big bytes (encode big part) whole formed begins.0 begins.1 ∙ ap (λ x. x ++ text_of big begins.0) is),
        λ begins. (encode big begins.0, bytes_begin big bytes (encode big part) whole formed begins.0 (decoded ∙ begins.1 ∙ ap (λ x. x ++ begins.0) (sym is))),
      )

  pub suffix_text : ((front : List ℕ) × (bytes ≡ front ++ encode big part)) ↔ ((front : List ℕ) × (text ≡ front ++ part))
  suffix_text =
      let whole = IsUtf16-from_Encodes big text bytes e in
      let formed = IsUtf16-encode big part scalars in
      let decoded = text_of-Encodes big text bytes e in
      let is = text_of-encode big part scalars in (
        λ ends.
            let found = text_ends big bytes (encode big part) whole formed ends.0 ends.1 in
            (found.0, sym decoded ∙ found.1 ∙ ap (λ x. found.0 ++ x) is),
        λ ends. (encode big ends.0, bytes_end big bytes (encode big part) whole formed ends.0 (decoded ∙ ends.1 ∙ ap (λ x. ends.0 ++ x) (sym is))),
      )
