-- What a buffer holds where a vector was stored, and which bytes of a vector are picked.
use Rattle.std.proofs.Common.{◌≡◌, ℕ, suc, ◌+◌, ◌*◌, ◌/◌, ◌<◌, ◌≤◌, Bool, true, false, cond, List, [], ◌∷◌, ◌++◌, length, map, take, drop, get_or, refl, ap, ap₂, ◌∙◌, subst, arith, leb, w8, length-take-le, take_all}
use Rattle.std.proofs.lemmas.Bool.{lt-leb}
use Rattle.std.proofs.lemmas.List.{take-append-le, take-map}
use Rattle.std.proofs.Math.Seq.{take-append-add}
use Rattle.std.proofs.lemmas.Simd.{pick_l-range_with_len, put_chunk_is, swz_l}
use Rattle.std.specs.List.{range_with_len}
use lib.Lanes.{Each1, put_chunk}
use Rattle.utf16_to_utf8.specs.Pack.{packed}

-- a vector that was stored, up to one of its bytes
pub stored-front : (at n : ℕ) (out bytes : List ℕ) → n ≤ length bytes → at + length bytes ≤ length out → take (at + n) (put_chunk at out bytes) ≡ take at out ++ take n bytes
stored-front at n out bytes few room =
    let front = take at out in
    let long : length front ≡ at = length-take-le at out (omega arith) in
    let rest = drop (length bytes) (drop at out) in
    ap (take (at + n)) (put_chunk_is at out bytes room)
    ∙ subst (λ m. take (m + n) (front ++ (bytes ++ rest)) ≡ front ++ take n (bytes ++ rest)) long (take-append-add front (bytes ++ rest) n)
    ∙ ap (λ bs. front ++ bs) (take-append-le n bytes rest few)

-- bytes picked by indices into sixteen
pub swz-picked : (bytes : List ℕ) (i : ℕ) (places : List ℕ) → i + length places ≤ 16 → Each1 (λ place. place < 16) places
    → swz_l w8 16 bytes i places ≡ map (λ place. get_or bytes place 0) places
swz-picked bytes i [] long within = refl
swz-picked bytes i (place ∷ places) long within =
    let low = within.0 in
    let inside : 16 * (i / 16) + place ≡ place = omega arith in
    let small : leb 128 place ≡ false = lt-leb 128 place (omega (arith, low)) in
    ap₂ (λ x xs. x ∷ xs)
    (ap (λ (b : Bool). cond b 0 (get_or bytes (16 * (i / 16) + place) 0)) small ∙ ap (λ p. get_or bytes p 0) inside)
    (swz-picked bytes (suc i) places (omega arith) within.1)

pub packed-map : (f : ℕ → ℕ) (flags : List Bool) (xs : List ℕ) → map f (packed flags xs) ≡ packed flags (map f xs)
packed-map f [] xs = refl
packed-map f (flag ∷ flags) [] = refl
packed-map f (flag ∷ flags) (x ∷ []) = refl
packed-map f (true ∷ flags) (x ∷ y ∷ xs) = ap (λ t. f x ∷ t) (packed-map f flags xs)
packed-map f (false ∷ flags) (x ∷ y ∷ xs) = ap (λ t. f x ∷ f y ∷ t) (packed-map f flags xs)

-- the bytes of sixteen that a rule keeps by their places
pub picked-by : (keep : List ℕ → List ℕ) → ((f : ℕ → ℕ) (xs : List ℕ) → map f (keep xs) ≡ keep (map f xs)) → (bytes places : List ℕ) (n : ℕ) → length bytes ≡ 16
    → take n places ≡ keep (range_with_len 0 16) → take n (map (λ place. get_or bytes place 0) places) ≡ keep bytes
picked-by keep keep-map bytes places n long is =
    let get = λ (place : ℕ). get_or bytes place 0 in
    take-map get n places ∙ ap (map get) is ∙ keep-map get (range_with_len 0 16)
    ∙ ap keep (pick_l-range_with_len 0 bytes 0 16 (omega (arith, long)) ∙ take_all 16 bytes (omega (arith, long)))
