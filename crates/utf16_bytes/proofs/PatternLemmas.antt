-- A part in the middle of a text, and the text around a part.
use Rattle.std.proofs.Common.{◌≡◌, ℕ, ◌+◌, ◌-◌, List, ◌++◌, refl, sym, ap, ◌∙◌, subst, arith, append_assoc}
use Rattle.utf16_units.specs.Boundary.{OccursIn, text_from, text_to}
use Rattle.utf16_units.specs.Encoding.{size}
use Rattle.utf16_units.proofs.BoundaryLemmas.{text_from-at, text_to-at}
use Rattle.utf16_units.proofs.EncodingLemmas.{size-append}

-- a part between two others occurs after the first
pub between_parts : (text front part back : List ℕ) → text ≡ front ++ part ++ back → OccursIn text (size front) part
between_parts text front part back e = subst (λ t. OccursIn t (size front) part) (sym e) (record {
  start = record { front = front; back = part ++ back; split = sym (append_assoc front part back); offset = refl };
  end = record { front = front ++ part; back = back; split = refl; offset = size-append front part };
  between =
      let n : size part ≡ size front + size part - size front = omega arith in
      ap (λ t. text_to t (size front + size part - size front)) (ap (λ t. text_from t (size front)) (append_assoc front part back) ∙ text_from-at front (part ++ back) (size front) refl)
      ∙ text_to-at part back (size front + size part - size front) n;
})
