-- The character at a boundary, read from a view of the text starting there.
use Rattle.std.proofs.Common.{◌≡◌, ℕ, ◌<◌, ◌≤◌, Bool, true, List, [], length, Option, Some, None, IsSome, refl, sym, ap, ◌∙◌, subst, arith}
use Rattle.std.specs.Iterator.{YieldsFirst}
use Rattle.utf16_units.specs.Boundary.{IsBoundary, text_between, text_from, text_to}
use Rattle.utf16_units.specs.Encoding.{is_utf16, size, text_of}
use Rattle.utf16_units.proofs.BoundaryLemmas.{IsBoundary-end, size-text_to, text_between-end, text_to-text_from}
use Rattle.utf16_units.proofs.EncodingLemmas.{IsUtf16-from_is_utf16, length-text, size-append, size-nil}

module _ (big : Bool) (bytes : List ℕ) (i : ℕ) (checked : is_utf16 big bytes ≡ true) (within : i < size (text_of big bytes)) (b : IsBoundary (text_of big bytes) i) where
  long : length bytes ≡ size (text_of big bytes)
  long = length-text big bytes (IsUtf16-from_is_utf16 big bytes checked)

  -- from the boundary to the end is a valid range
  pub to_end : (i ≤ length bytes) × IsBoundary (text_of big bytes) i × IsBoundary (text_of big bytes) (length bytes)
  to_end = (omega (arith, long), b, subst (IsBoundary (text_of big bytes)) (sym long) (IsBoundary-end (text_of big bytes)))

  -- the text in that range
  pub part : text_between (text_of big bytes) i (length bytes) ≡ text_from (text_of big bytes) i
  part = ap (text_between (text_of big bytes) i) long ∙ text_between-end (text_of big bytes) i b

  -- it has a first character
  pub some : (first : Option ℕ) (rest : List ℕ) → YieldsFirst (λ xs. xs) (text_between (text_of big bytes) i (length bytes)) first rest → IsSome first
  some (Some c) rest yields = refl
  some None rest yields =
      let none : text_from (text_of big bytes) i ≡ [] = sym part ∙ yields.0 in
      let whole = ap size (text_to-text_from (text_of big bytes) i) in
      absurd (omega (arith, size-append (text_to (text_of big bytes) i) (text_from (text_of big bytes) i), ap size none, size-nil, size-text_to (text_of big bytes) i b))
