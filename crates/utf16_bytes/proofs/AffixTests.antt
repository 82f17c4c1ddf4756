-- Whether bytes begin or end with a part, and how long that part is.
use Rattle.std.proofs.Common.{◌≡◌, ℕ, ◌-◌, Bool, List, [], ◌∷◌, ◌++◌, length, drop, nat_eq, take, true, false, Option, IfSome, sym, ap, ◌∙◌, subst, arith, ◌↔◌}
use Rattle.std.proofs.Math.Seq.{take-append_seam}
use Rattle.std.proofs.lemmas.Bool.Decides.{Decides-eqb}
use Rattle.std.proofs.lemmas.Slice.Eq.{ends_is, starts_is}
use Rattle.std.specs.Bool.{then_some}
use Rattle.std.specs.List.{ends_with, starts_with}
use Rattle.std.specs.Option.{IsSome}
use Rattle.utf16_units.specs.Encoding.{char_bytes, char_size, encode}
use Rattle.utf16_units.proofs.EncodingLemmas.{encode-one, length-encode, size-cons, size-nil}

-- the first bytes of a buffer that a character was written to are its encoding
pub char_part : (big : Bool) (c n : ℕ) (buffer rest : List ℕ) → n ≡ char_size c → buffer ≡ char_bytes big c ++ rest → take n buffer ≡ encode big (c ∷ [])
char_part big c n buffer rest is written =
    let one = encode-one big c in
    let long : n ≡ length (char_bytes big c) = omega (arith, is, ap length one, length-encode big (c ∷ []), size-cons c [], size-nil) in
    ap (take n) written ∙ ap (λ k. take k (char_bytes big c ++ rest)) long ∙ take-append_seam (char_bytes big c) rest ∙ sym one

-- ---- the length of a part, if the bytes begin, or end, with it
tested : (test : Bool) (n : ℕ) (Parts : Type 0) → ((test ≡ true) ↔ Parts) → (IsSome (then_some test n) ↔ Parts)
tested true n Parts parts = parts
tested false n Parts parts = parts

pub tested-some : (test : Bool) (n : ℕ) (r : Option ℕ) (Parts : Type 0) → r ≡ then_some test n → ((test ≡ true) ↔ Parts) → (IsSome r ↔ Parts)
tested-some test n r Parts is parts = subst (λ o. IsSome o ↔ Parts) (sym is) (tested test n Parts parts)

long : (test : Bool) (n len : ℕ) → n ≡ len → IfSome (then_some test n) (λ k. k ≡ len)
long true n len same = same
long false n len same = tt

pub tested-len : (test : Bool) (n len : ℕ) (r : Option ℕ) → r ≡ then_some test n → n ≡ len → IfSome r (λ k. k ≡ len)
tested-len test n len r is same = subst (λ o. IfSome o (λ k. k ≡ len)) (sym is) (long test n len same)

pub begins_is : (bytes part other : List ℕ) (test : Bool) → test ≡ starts_with nat_eq bytes part → part ≡ other → (test ≡ true) ↔ ((rest : List ℕ) × (bytes ≡ other ++ rest))
begins_is bytes part other test e same =
    let is = starts_is Decides-eqb bytes part test e in
    subst (λ p. (test ≡ true) ↔ ((rest : List ℕ) × (bytes ≡ p ++ rest))) same
    (λ yes. (drop (length part) bytes, is.0 yes), λ parts. is.1 parts.0 parts.1)

pub ends_is_part : (bytes part other : List ℕ) (test : Bool) → test ≡ ends_with nat_eq bytes part → part ≡ other → (test ≡ true) ↔ ((front : List ℕ) × (bytes ≡ front ++ other))
ends_is_part bytes part other test e same =
    let is = ends_is Decides-eqb bytes part test e in
    subst (λ p. (test ≡ true) ↔ ((front : List ℕ) × (bytes ≡ front ++ p))) same
    (λ yes. (take (length bytes - length part) bytes, is.0 yes), λ parts. is.1 parts.0 parts.1)
