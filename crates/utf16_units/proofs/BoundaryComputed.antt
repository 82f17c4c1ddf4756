-- The computed boundary is true exactly at the boundaries.
use Rattle.std.proofs.Common.{◌≡◌, ℕ, ◌-◌, ◌≤◌, ◌⊎◌, List, [], ◌∷◌, ◌++◌, sym, ap, ◌∙◌, subst, ⊎_elim, inl, inr, arith, le-leb}
use Rattle.std.specs.Prelude.{◌==◌, ◌&&◌, nat_le}
use Rattle.std.specs.Bool.{Decides}
use Rattle.std.proofs.lemmas.Bool.{leb-true}
use Rattle.std.proofs.lemmas.Bool.Decides.{Decides-and, Decides-eqb, Decides-like, Decides-or}
use Rattle.utf16_units.specs.Boundary.{is_boundary, IsBoundary}
use Rattle.utf16_units.specs.Encoding.{char_size, size}
use Rattle.utf16_units.proofs.BoundaryLemmas.{IsBoundary-start}
use Rattle.utf16_units.proofs.EncodingLemmas.{size-cons, size-nil}

start : (text : List ℕ) (i : ℕ) → i ≡ 0 → IsBoundary text i
start text i e = subst (IsBoundary text) (sym e) (IsBoundary-start text)

behind : (c : ℕ) (text : List ℕ) (i : ℕ) → char_size c ≤ i → IsBoundary text (i - char_size c) → IsBoundary (c ∷ text) i
behind c text i fits b =
    let whole = size-cons c b.front in
    record { front = c ∷ b.front; back = b.back; split = ap (λ t. c ∷ t) b.split; offset = omega arith }

-- the prefix before a boundary has no character, or the first one and then a prefix of the rest
first : (c : ℕ) (text : List ℕ) (i : ℕ) (front back : List ℕ) → front ++ back ≡ c ∷ text → size front ≡ i
    → (i ≡ 0) ⊎ ((char_size c ≤ i) × IsBoundary text (i - char_size c))
first c text i [] back split offset = inl (sym offset ∙ size-nil)
first c text i (x ∷ front) back split offset =
    let head : x ≡ c = cc in
    let tail : front ++ back ≡ text = cc in
    let same = ap char_size head in
    let whole = size-cons x front in
    inr (omega arith, record { front = front; back = back; split = tail; offset = omega arith })

only : (i : ℕ) (front back : List ℕ) → front ++ back ≡ [] → size front ≡ i → i ≡ 0
only i [] back split offset = sym offset ∙ size-nil
only i (x ∷ front) back split offset = absurd cc

pub is_boundary-Decides : (text : List ℕ) (i : ℕ) → Decides (is_boundary text i) (IsBoundary text i)
unfolding is_boundary
is_boundary-Decides [] i = Decides-like (i == 0) (start [] i) (λ b. only i b.front b.back b.split b.offset) (Decides-eqb i 0)
is_boundary-Decides (c ∷ text) i =
    Decides-like (is_boundary (c ∷ text) i)
    (λ k. ⊎_elim (start (c ∷ text) i) (λ (p : (char_size c ≤ i) × IsBoundary text (i - char_size c)). behind c text i p.0 p.1) k)
    (λ b. first c text i b.front b.back b.split b.offset)
    (Decides-or (i == 0) (nat_le (char_size c) i && is_boundary text (i - char_size c)) (Decides-eqb i 0)
    (Decides-and (nat_le (char_size c) i) (is_boundary text (i - char_size c)) (leb-true (char_size c) i, le-leb (char_size c) i) (is_boundary-Decides text (i - char_size c))))
