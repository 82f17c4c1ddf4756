-- A key found in a record, and bytes that are swapped in pairs.
use Rattle.std.proofs.Common.{◌≡◌, ◌≢◌, ℕ, ◌+◌, ◌-◌, ◌%◌, ◌≤◌, Bool, List, [], ◌∷◌, ◌++◌, length, drop, slice_index, refl, sym, ap, ◌∙◌, subst, arith}
use Rattle.std.proofs.lemmas.List.{drop_more}
use Rattle.utf16_units.specs.Boundary.{IsBoundary, text_from, text_to}
use Rattle.utf16_units.specs.Encoding.{encode, IsUtf16, size, text_of}
use Rattle.utf16_units.specs.Laws.{FoundAligned, OccursAt, swap_bytes}
use Rattle.utf16_units.proofs.BoundaryLemmas.{text_to-text_from}
use Rattle.utf16_units.proofs.EncodingLemmas.{encode-text_of, scalars-text_of}

module _ (law : FoundAligned) (big : Bool) (record_bytes key_bytes : List ℕ) (at : ℕ) (t : IsUtf16 big record_bytes) (k : IsUtf16 big key_bytes)
    (some : text_of big key_bytes ≢ []) (even : at % 2 ≡ 0) (stands : OccursAt record_bytes at key_bytes) where
  found : OccursAt (encode big (text_of big record_bytes)) at (encode big (text_of big key_bytes))
  found = subst (λ b. OccursAt (encode big (text_of big record_bytes)) at b) (sym (encode-text_of big key_bytes k))
      (subst (λ b. OccursAt b at key_bytes) (sym (encode-text_of big record_bytes t)) stands)

  -- the key begins at a boundary
  pub key_starts : IsBoundary (text_of big record_bytes) at
  key_starts = (law big (text_of big record_bytes) (text_of big key_bytes) at (scalars-text_of big record_bytes t) (scalars-text_of big key_bytes k) some even found).0

  between : text_to (text_from (text_of big record_bytes) at) (size (text_of big key_bytes)) ≡ text_of big key_bytes
  between =
      let parts = law big (text_of big record_bytes) (text_of big key_bytes) at (scalars-text_of big record_bytes t) (scalars-text_of big key_bytes k) some even found in
      let cut : size (text_of big key_bytes) ≡ at + size (text_of big key_bytes) - at = omega arith in
      ap (text_to (text_from (text_of big record_bytes) at)) cut ∙ parts.2

  -- what follows that boundary is the key and what follows the key
  key_split : (n : ℕ) → n ≡ size (text_of big key_bytes)
      → text_of big key_bytes ++ text_from (text_from (text_of big record_bytes) at) n ≡ text_from (text_of big record_bytes) at
  key_split n size_is =
      ap (λ t. t ++ text_from (text_from (text_of big record_bytes) at) n) (sym between ∙ ap (text_to (text_from (text_of big record_bytes) at)) (sym size_is))
      ∙ text_to-text_from (text_from (text_of big record_bytes) at) n

  pub key_ends : (n : ℕ) → n ≡ size (text_of big key_bytes) → IsBoundary (text_from (text_of big record_bytes) at) n
  key_ends n size_is = record {
    front = text_of big key_bytes;
    back = text_from (text_from (text_of big record_bytes) at) n;
    split = key_split n size_is;
    offset = sym size_is;
  }

  -- the record is what precedes the key, the key, and what follows it
  pub key_cuts : (n : ℕ) → n ≡ size (text_of big key_bytes)
      → text_of big record_bytes ≡ text_to (text_of big record_bytes) at ++ (text_of big key_bytes ++ text_from (text_from (text_of big record_bytes) at) n)
  key_cuts n size_is =
      sym (text_to-text_from (text_of big record_bytes) at)
      ∙ ap (λ t. text_to (text_of big record_bytes) at ++ t) (sym (key_split n size_is))

swap_bytes-two : (x y : ℕ) (bytes : List ℕ) → swap_bytes (x ∷ y ∷ bytes) ≡ y ∷ x ∷ swap_bytes bytes
unfolding swap_bytes
swap_bytes-two x y bytes = refl

pub swap_bytes-nil : swap_bytes [] ≡ []
unfolding swap_bytes
swap_bytes-nil = refl

-- swapping the rest of the bytes swaps the next two, and then those after them
pub swap_bytes-at : (bytes : List ℕ) (at : ℕ) → 2 ≤ length bytes - at
    → swap_bytes (drop at bytes) ≡ slice_index bytes (at + 1) ∷ slice_index bytes at ∷ swap_bytes (drop (at + 2) bytes)
swap_bytes-at bytes at long =
    let next : at + 1 + 1 ≡ at + 2 = omega arith in
    ap swap_bytes (drop_more bytes at 0 (omega arith)
    ∙ ap (λ t. slice_index bytes at ∷ t) (drop_more bytes (at + 1) 0 (omega arith) ∙ ap (λ k. slice_index bytes (at + 1) ∷ drop k bytes) next))
    ∙ swap_bytes-two (slice_index bytes at) (slice_index bytes (at + 1)) (drop (at + 2) bytes)
