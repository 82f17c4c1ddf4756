-- The lossy text of bytes that are cut into several parts.
use Rattle.std.proofs.Common.{◌≡◌, ℕ, ◌+◌, ◌-◌, ◌<◌, ◌≤◌, List, [], ◌∷◌, ◌++◌, length, take, drop, slice_index, inl, inr, refl, sym, ap, ◌∙◌, subst, arith, append-nil, append_assoc, length-take-le}
use Rattle.std.proofs.lemmas.List.{drop-take, get_or-take, take-take}
use Rattle.std.proofs.str.Laws.{Follows}
use Rattle.std.specs.List.{flat_map}
use Rattle.utf8_bytes.specs.Split.{lossy_text}
use Rattle.utf16_units.specs.Cuts.{parts, parts_from}
use Rattle.utf8_bytes.specs.Boundary.{AreCuts, AreCutsFrom, IsCut}
use Rattle.utf8_bytes.proofs.CutLemmas.{nil_text, text_cut}

cut_within : (bytes : List ℕ) (at : ℕ) → IsCut bytes at → at ≤ length bytes
cut_within bytes at (inl start) = omega (arith, start)
cut_within bytes at (inr (inl boundary)) = boundary.0
cut_within bytes at (inr (inr three)) = three.1

-- a boundary of bytes is also one of the bytes before another boundary
module _ (bytes : List ℕ) (start end : ℕ) (ascend : start ≤ end) (within : end ≤ length bytes) where
  abbrev front : List ℕ
  front = take end bytes

  byte : (i : ℕ) → i < end → slice_index front i ≡ slice_index bytes i
  byte i below = get_or-take end bytes i 0 below

  before : IsCut bytes start → IsCut front start
  before (inl start) = inl start
  before (inr (inl boundary)) =
      let long = length-take-le end bytes within in
      inr (inl (omega (arith, long, ascend), (λ below. subst (λ b. 128 ≤ b → 192 ≤ b) (sym (byte start (omega (arith, below, long)))) (boundary.1 (omega (arith, below, long, within))))))
  before (inr (inr three)) =
      let long = length-take-le end bytes within in
      let some = three.0 in
      let follows : (i : ℕ) → i < end → Follows (slice_index bytes i) → Follows (slice_index front i) = λ i below f. subst Follows (sym (byte i below)) f in
      inr (inr (
        some,
        omega (arith, long, ascend),
        follows (start - 3) (omega (arith, some, ascend)) three.2,
        follows (start - 2) (omega (arith, some, ascend)) three.3,
        follows (start - 1) (omega (arith, some, ascend)) three.4,
      ))

  -- the bytes before the second boundary are cut at the first
  pub between : IsCut bytes start → lossy_text front ≡ lossy_text (take start bytes) ++ lossy_text (drop start front)
  between cut = text_cut front start (before cut) ∙ ap (λ b. lossy_text b ++ lossy_text (drop start front)) (take-take start end bytes ascend)

text_from : (bytes : List ℕ) (start : ℕ) (ends : List ℕ) → IsCut bytes start → AreCutsFrom bytes start ends
    → lossy_text bytes ≡ lossy_text (take start bytes) ++ flat_map lossy_text (parts_from bytes start ends)
text_from bytes start [] cut are = text_cut bytes start cut ∙ ap (λ t. lossy_text (take start bytes) ++ t) (sym (append-nil (lossy_text (drop start bytes))))
text_from bytes start (end ∷ ends) cut are =
    let part = take (end - start) (drop start bytes) in
    let upto : end ≡ start + (end - start) = omega (arith, are.0) in
    let same : drop start (take end bytes) ≡ part = ap (λ n. drop start (take n bytes)) upto ∙ drop-take start (end - start) bytes in
    let rest = flat_map lossy_text (parts_from bytes end ends) in
    text_from bytes end ends are.1 are.2
    ∙ ap (λ t. t ++ rest) (between bytes start end are.0 (cut_within bytes end are.1) cut)
    ∙ ap (λ p. (lossy_text (take start bytes) ++ lossy_text p) ++ rest) same
    ∙ append_assoc (lossy_text (take start bytes)) (lossy_text part) rest

pub text_parts : (bytes ends : List ℕ) → AreCuts bytes ends → lossy_text bytes ≡ flat_map lossy_text (parts bytes ends)
text_parts bytes ends are = text_from bytes 0 ends (inl refl) are ∙ ap (λ t. t ++ flat_map lossy_text (parts bytes ends)) nil_text
