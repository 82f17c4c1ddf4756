-- The substrings of a text after an edit at a boundary.
use Rattle.std.proofs.Common.{◌≡◌, ℕ, ◌+◌, ◌-◌, List, ◌++◌, refl, sym, ap, ◌∙◌, arith, append_assoc}
use Rattle.utf16_units.specs.Boundary.{IsBoundary, text_between, text_from, text_to}
use Rattle.utf16_units.specs.Edit.{insert_at, overwrite_at}
use Rattle.utf16_units.specs.Encoding.{size}
use Rattle.utf16_units.proofs.BoundaryLemmas.{size-text_to, text_from-at, text_to-at}
use Rattle.utf16_units.proofs.EncodingLemmas.{size-append}
use Rattle.utf16_units.proofs.PartLemmas.{cut_at}

-- the prefix of a text, followed by anything
module _ (text back : List ℕ) (i : ℕ) (at : IsBoundary text i) where
  pub kept-start : IsBoundary (text_to text i ++ back) i
  kept-start = record { front = text_to text i; back = back; split = refl; offset = size-text_to text i at }

  pub kept-front : text_to (text_to text i ++ back) i ≡ text_to text i
  kept-front = text_to-at (text_to text i) back i (size-text_to text i at)

  pub kept-back : text_from (text_to text i ++ back) i ≡ back
  kept-back = text_from-at (text_to text i) back i (size-text_to text i at)

-- the prefix of a text, a part, and anything after it
module _ (text part back : List ℕ) (i : ℕ) (at : IsBoundary text i) where
  whole : (text_to text i ++ part) ++ back ≡ text_to text i ++ (part ++ back)
  whole = append_assoc (text_to text i) part back

  long : size (text_to text i ++ part) ≡ i + size part
  long = size-append (text_to text i) part ∙ ap (λ n. n + size part) (size-text_to text i at)

  pub put-end : IsBoundary (text_to text i ++ (part ++ back)) (i + size part)
  put-end = record { front = text_to text i ++ part; back = back; split = whole; offset = long }

  pub put-back : text_from (text_to text i ++ (part ++ back)) (i + size part) ≡ back
  put-back = ap (λ t. text_from t (i + size part)) (sym whole) ∙ text_from-at (text_to text i ++ part) back (i + size part) long

  pub put-there : text_between (text_to text i ++ (part ++ back)) i (i + size part) ≡ part
  put-there =
      ap (λ t. text_to t (i + size part - i)) (kept-back text (part ++ back) i at)
      ∙ text_to-at part back (i + size part - i) (omega arith)

  pub size-put : size (text_to text i ++ (part ++ back)) ≡ i + size part + size back
  size-put = ap size (sym whole) ∙ size-append (text_to text i ++ part) back ∙ ap (λ n. n + size back) long

-- the size of a text with another inserted, and with another over as many of its bytes
pub size-insert_at : (text other : List ℕ) (i : ℕ) → IsBoundary text i → size (insert_at text i other) ≡ size text + size other
size-insert_at text other i at = omega (arith, size-put text other (text_from text i) i at, (cut_at text i at).back_size)

pub size-overwrite_at : (text other : List ℕ) (i : ℕ) → IsBoundary text i → IsBoundary text (i + size other) → size (overwrite_at text i other) ≡ size text
size-overwrite_at text other i at end =
    omega (arith, size-put text other (text_from text (i + size other)) i at, (cut_at text (i + size other) end).back_size)
