-- The lossy text of bytes that are cut in two.
use Rattle.std.proofs.Common.{◌≡◌, ⊎_elim, ℕ, ◌+◌, ◌<◌, ◌≤◌, List, [], ◌∷◌, ◌++◌, length, map, take, drop, slice_index, inl, inr, refl, sym, ap, ap₂, ◌∙◌, arith, append-nil, append_assoc, length-drop, take-append-drop}
use Rattle.std.proofs.lemmas.Bool.{cases_lt}
use Rattle.std.proofs.lemmas.List.{drop_all, get_or-drop}
use Rattle.std.proofs.lemmas.Str.{IsUtf8-nil, chars-nil}
use Rattle.std.proofs.str.Laws.{Follows}
use Rattle.std.specs.Str.{IsCharBoundary}
use Rattle.utf8_bytes.specs.Split.{IsTail, decided_text, good, lossy_chars, lossy_text, split_items, split_tail, whole_lossy_chars}
use Rattle.utf8_bytes.proofs.LawProofs.{split_exists}
use Rattle.utf8_bytes.proofs.LossyLemmas.{lossy_text-append, tail_text, whole_is}
use Rattle.utf8_bytes.proofs.TextLemmas.{split_text}
use Rattle.utf8_bytes.specs.Boundary.{IsCut}
use Rattle.utf8_bytes.proofs.TailLemmas.{tail_text-then, three_decide}

nil_tail : split_tail [] ≡ []
nil_tail = (split_text [] IsUtf8-nil).1

pub nil_text : lossy_text [] ≡ []
nil_text =
    let split = split_text [] IsUtf8-nil in
    ap₂ whole_lossy_chars split.0 split.1 ∙ ap (λ t. lossy_chars (map good t)) chars-nil

-- ---- two parts

module _ (front back : List ℕ) where
  -- the tail of the first, and the second
  joined : lossy_text (split_tail front ++ back) ≡ tail_text (split_tail front) ++ lossy_text back → lossy_text (front ++ back) ≡ lossy_text front ++ lossy_text back
  joined next =
      lossy_text-append front back
      ∙ ap (λ t. decided_text front ++ t) next
      ∙ sym (append_assoc (decided_text front) (tail_text (split_tail front)) (lossy_text back))
      ∙ ap (λ t. t ++ lossy_text back) (sym (whole_is (split_items front) (split_tail front)))

  -- the first leaves no tail
  clean : split_tail front ≡ [] → lossy_text (front ++ back) ≡ lossy_text front ++ lossy_text back
  clean none = joined (ap (λ t. lossy_text (t ++ back)) none ∙ ap (λ t. tail_text t ++ lossy_text back) (sym none))

  -- the second does not begin with a continuation byte
  begun : 0 < length back → ¬ (Follows (slice_index back 0)) → lossy_text (front ++ back) ≡ lossy_text front ++ lossy_text back
  begun some other = joined (by_tail (split_tail front) (split_exists front).ends) where
    by_tail : (tail : List ℕ) → IsTail tail → lossy_text (tail ++ back) ≡ tail_text tail ++ lossy_text back
    by_tail [] ends = refl
    by_tail (x ∷ tail) ends = tail_text-then (x ∷ tail) back ends (omega arith) some other

module _ (bytes : List ℕ) (at : ℕ) where
  abbrev front : List ℕ
  front = take at bytes

  abbrev back : List ℕ
  back = drop at bytes

  abbrev Joined : Type 0
  Joined = lossy_text (front ++ back) ≡ lossy_text front ++ lossy_text back

  ended : length bytes ≤ at → Joined
  ended end =
      let none : back ≡ [] = drop_all at bytes end in
      ap (λ b. lossy_text (front ++ b)) none ∙ ap lossy_text (append-nil front)
      ∙ sym (append-nil (lossy_text front))
      ∙ ap (λ t. lossy_text front ++ t) (sym (ap lossy_text none ∙ nil_text))

  by_byte : IsCharBoundary bytes at → Joined
  by_byte is = ⊎_elim
      (λ (inside : at < length bytes).
      let here : at + 0 ≡ at = omega arith in
      let byte : slice_index back 0 ≡ slice_index bytes at = get_or-drop at bytes 0 0 ∙ ap (slice_index bytes) here in
      begun front back (omega (arith, length-drop at bytes))
      (λ f. let above = f.0 in let below = f.1 in let high = is.1 inside (omega arith) in omega arith))
      ended
      (cases_lt at (length bytes))

  by_cut : IsCut bytes at → Joined
  by_cut (inl start) = clean front back (ap (λ n. split_tail (take n bytes)) start ∙ nil_tail)
  by_cut (inr (inl boundary)) = by_byte boundary
  by_cut (inr (inr three)) = clean front back (three_decide bytes at three)

  pub text_cut : IsCut bytes at → lossy_text bytes ≡ lossy_text front ++ lossy_text back
  text_cut cut = ap lossy_text (sym (take-append-drop at bytes)) ∙ by_cut cut
