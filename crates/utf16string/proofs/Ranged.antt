-- A string with a range replaced or removed.
use Rattle.std.proofs.Common.{◌≡◌, ℕ, ◌+◌, ◌-◌, ◌≤◌, Bool, List, ◌++◌, length, take, drop, sym, ap, ap₂, ◌∙◌, arith, append_assoc, drop-drop, length-append, length-drop, take_at}
use Rattle.std.proofs.Math.Seq.{drop-append-add}
use Rattle.std.proofs.lemmas.List.{length-take-le}
use Rattle.std.specs.List.{remove_range, splice}
use Rattle.utf16_units.specs.Boundary.{IsBoundary, text_from, text_to}
use Rattle.utf16_units.specs.Encoding.{Encodes}
use Rattle.utf16_units.proofs.BoundaryLemmas.{Encodes-from, Encodes-to}
use Rattle.utf16_units.proofs.EncodingLemmas.{Encodes-append}

module _ (big : Bool) (text bytes : List ℕ) (i j : ℕ) (e : Encodes big text bytes) (start : IsBoundary text i) (end : IsBoundary text j) where
  pub Encodes-put : (other more : List ℕ) → Encodes big other more → Encodes big (text_to text i ++ (other ++ text_from text j)) (splice bytes i j more)
  Encodes-put other more o =
      Encodes-append big (text_to text i) (other ++ text_from text j) (take i bytes) (more ++ drop j bytes)
      (Encodes-to big text bytes i e start)
      (Encodes-append big other (text_from text j) more (drop j bytes) o (Encodes-from big text bytes j e end))

  pub Encodes-cut_out : Encodes big (text_to text i ++ text_from text j) (remove_range bytes i j)
  Encodes-cut_out = Encodes-append big (text_to text i) (text_from text j) (take i bytes) (drop j bytes) (Encodes-to big text bytes i e start) (Encodes-from big text bytes j e end)

-- the length of the part between two indices, and of the bytes with another part in its place
module _ (bytes : List ℕ) (i j : ℕ) (ordered : i ≤ j) (within : j ≤ length bytes) where
  pub length-part : length (take (j - i) (drop i bytes)) ≡ j - i
  length-part = length-take-le (j - i) (drop i bytes) (omega (arith, length-drop i bytes))

  pub length-put : (more : List ℕ) → length (splice bytes i j more) + length (take (j - i) (drop i bytes)) ≡ length bytes + length more
  length-put more =
      omega (arith, length-append (take i bytes) (more ++ drop j bytes), length-append more (drop j bytes), length-take-le i bytes (omega arith), length-drop j bytes, length-part)

pub length-inserted : (bytes : List ℕ) (i : ℕ) → i ≤ length bytes → (more : List ℕ) → length (splice bytes i i more) ≡ length bytes + length more
length-inserted bytes i within more =
    omega (arith, length-append (take i bytes) (more ++ drop i bytes), length-append more (drop i bytes), length-take-le i bytes within, length-drop i bytes)

-- a part replaced by fewer bytes: they are written over its start, and the rest of it is removed
pub put-cut_out : (old bytes : List ℕ) (start end : ℕ) → start + length bytes ≤ end → end ≤ length old
    → remove_range (splice old start (start + length bytes) bytes) (start + length bytes) end ≡ splice old start end bytes
put-cut_out old bytes start end fits within =
    let front = take start old ++ bytes in
    let behind = drop (start + length bytes) old in
    let long : length front ≡ start + length bytes = omega (arith, length-append (take start old) bytes, length-take-le start old (omega arith)) in
    let joined : splice old start (start + length bytes) bytes ≡ front ++ behind = sym (append_assoc (take start old) bytes behind) in
    let at : end ≡ length front + (end - (start + length bytes)) = omega arith in
    let back : start + length bytes + (end - (start + length bytes)) ≡ end = omega arith in
    ap₂ (λ s t. s ++ t) (ap (take (start + length bytes)) joined ∙ take_at front behind (start + length bytes) long)
    (ap (drop end) joined ∙ ap (λ n. drop n (front ++ behind)) at ∙ drop-append-add front behind (end - (start + length bytes))
    ∙ drop-drop (end - (start + length bytes)) (start + length bytes) old ∙ ap (λ n. drop n old) back)
    ∙ append_assoc (take start old) bytes (drop end old)
