-- What bytes may follow others, by their places.
use Rattle.std.proofs.Common.{◌≡◌, ℕ, zero, suc, ◌+◌, ◌-◌, ◌<◌, ◌≤◌, ◌⊎◌, ⊎_elim, inl, inr, List, ◌∷◌, drop, length, take, slice_index, subst, refl, sym, ap, ◌∙◌, arith}
use Rattle.std.proofs.lemmas.Bool.{cases_lt}
use Rattle.std.proofs.lemmas.List.{get_or-drop, get_or-take}
use Rattle.std.proofs.lemmas.Simd.{get_or-chunk, length-chunk}
use Rattle.std.specs.Simd.Lanes.{chunk}
use Rattle.utf16_units.specs.Lanes.{HasLanes}
use Rattle.utf16_from_utf8.specs.Follow.{AreBefore, AreBelow, FollowTo, Follows, FollowsAny, FollowsTwo, behind}

pub same-three : (P : ℕ → ℕ → ℕ → Type 0) (x y z p q r : ℕ) → p ≡ x → q ≡ y → r ≡ z → P x y z → P p q r
same-three P x y z p q r e f g is = subst (λ t. P t q r) (sym e) (subst (λ t. P x t r) (sym f) (subst (λ t. P x y t) (sym g) is))

pub follows-at : (x y z w p q r s : ℕ) → p ≡ x → q ≡ y → r ≡ z → s ≡ w → Follows x y z w → Follows p q r s
follows-at x y z w p q r s e f g h follows =
    subst (λ t. Follows t q r s) (sym e) (subst (λ t. Follows x t r s) (sym f) (subst (λ t. Follows x y t s) (sym g) (subst (λ t. Follows x y z t) (sym h) follows)))

pub behind-at : (d : ℕ) (bytes : List ℕ) (at i : ℕ) → d ≤ i → slice_index (behind d (drop at bytes)) i ≡ slice_index bytes (at + i - d)
behind-at zero bytes at i some = get_or-drop at bytes i 0 ∙ ap (slice_index bytes) (omega arith)
behind-at (suc d) bytes at zero some = absurd (omega (arith, some))
behind-at (suc d) bytes at (suc i) some = behind-at d bytes at i (omega (arith, some)) ∙ ap (slice_index bytes) (omega (arith, some))

pub behind-take : (d n : ℕ) (bytes : List ℕ) (at i : ℕ) → i < n → slice_index (behind d (take n (drop at bytes))) i ≡ slice_index (behind d (drop at bytes)) i
behind-take zero n bytes at i below = get_or-take n (drop at bytes) i 0 below
behind-take (suc d) n bytes at zero below = refl
behind-take (suc d) n bytes at (suc i) below = behind-take d n bytes at i (omega (arith, below))

pub behind-below : (d : ℕ) (bytes : List ℕ) (at i n limit : ℕ) → 0 < limit → i < n → AreBelow n bytes at limit → slice_index (behind d (drop at bytes)) i < limit
behind-below zero bytes at i n limit some below all = omega (arith, get_or-drop at bytes i 0, all i below)
behind-below (suc d) bytes at zero n limit some below all = some
behind-below (suc d) bytes at (suc i) n limit some below all = behind-below d bytes at i n limit some (omega (arith, below)) all

-- lanes, one place later
pub later-lanes : (xs ys : List ℕ) → ((i : ℕ) → i < 16 → slice_index xs i ≡ slice_index ys i) → (i : ℕ) → i < 16 → slice_index (0 ∷ xs) i ≡ slice_index (0 ∷ ys) i
later-lanes xs ys same zero below = refl
later-lanes xs ys same (suc i) below = same i (omega (arith, below))

-- sixteen bytes at a place each may follow the three before it
abbrev pub FollowAt : List ℕ → ℕ → Type 0
FollowAt bytes at = (j : ℕ) → j < 16 → Follows (slice_index bytes (at - 3 + j)) (slice_index bytes (at - 2 + j)) (slice_index bytes (at - 1 + j)) (slice_index bytes (at + j))

pub follow-more : (bytes : List ℕ) (at k : ℕ) → 3 ≤ k → FollowTo k bytes at → FollowAt bytes (at + k) → FollowTo (k + 16) bytes at
follow-more bytes at k some done next i below = ⊎_elim
    (λ (a : i < k). done i a)
    (λ (a : k ≤ i).
    follows-at _ _ _ _ _ _ _ _
    (behind-at 3 bytes at i (omega (arith, some, a)) ∙ ap (slice_index bytes) (omega (arith, some, a)))
    (behind-at 2 bytes at i (omega (arith, some, a)) ∙ ap (slice_index bytes) (omega (arith, some, a)))
    (behind-at 1 bytes at i (omega (arith, some, a)) ∙ ap (slice_index bytes) (omega (arith, some, a)))
    (ap (slice_index bytes) (omega (arith, a))) (next (i - k) (omega (arith, a, below))))
    (cases_lt i k)

pub follow-next : (bytes : List ℕ) (at k n : ℕ) → 3 ≤ k → k + 16 ≤ n → FollowTo n bytes at → FollowAt bytes (at + k)
follow-next bytes at k n some most all j below =
    follows-at _ _ _ _ _ _ _ _
    (sym (behind-at 3 bytes at (k + j) (omega (arith, some)) ∙ ap (slice_index bytes) (omega (arith, some))))
    (sym (behind-at 2 bytes at (k + j) (omega (arith, some)) ∙ ap (slice_index bytes) (omega (arith, some))))
    (sym (behind-at 1 bytes at (k + j) (omega (arith, some)) ∙ ap (slice_index bytes) (omega (arith, some))))
    (ap (slice_index bytes) (omega arith)) (all (k + j) (omega (arith, most, below)))

-- ---- the bytes before each byte of a chunk

-- the bytes before each byte of a block, read from the chunk
pub before-in : (piece : List ℕ) (at : ℕ) → 2 ≤ at → at + 16 ≤ length piece
    → AreBefore (slice_index piece (at - 2)) (slice_index piece (at - 1)) (chunk at 16 piece) (chunk (at - 2) 16 piece) (chunk (at - 1) 16 piece)
before-in piece at some room = record {
  one = record {
    len = length-chunk (at - 1) 16 piece (omega arith);
    lanes = λ i below. get_or-chunk (at - 1) 16 piece i 0 below ∙ behind i below;
  };
  two = record {
    len = length-chunk (at - 2) 16 piece (omega arith);
    lanes = λ i below. get_or-chunk (at - 2) 16 piece i 0 below ∙ twice i below;
  };
}
  where
    behind : (i : ℕ) → i < 16 → slice_index piece (at - 1 + i) ≡ slice_index (slice_index piece (at - 1) ∷ chunk at 16 piece) i
    behind zero below = ap (slice_index piece) (omega arith)
    behind (suc i) below = ap (slice_index piece) (omega arith) ∙ sym (get_or-chunk at 16 piece i 0 (omega arith))

    twice : (i : ℕ) → i < 16 → slice_index piece (at - 2 + i) ≡ slice_index (slice_index piece (at - 2) ∷ chunk (at - 1) 16 piece) i
    twice zero below = ap (slice_index piece) (omega arith)
    twice (suc i) below = ap (slice_index piece) (omega arith) ∙ sym (get_or-chunk (at - 1) 16 piece i 0 (omega arith))

pub before-one : (bytes : List ℕ) (at i : ℕ) → 1 ≤ at → i < 16 → slice_index (slice_index bytes (at - 1) ∷ chunk at 16 bytes) i ≡ slice_index bytes (at - 1 + i)
before-one bytes at zero some below = ap (slice_index bytes) (omega arith)
before-one bytes at (suc i) some below = get_or-chunk at 16 bytes i 0 (omega (arith, below)) ∙ ap (slice_index bytes) (omega (arith, some))

pub before-two : (bytes b1 : List ℕ) (at i : ℕ) → 2 ≤ at → i < 16 → ((i : ℕ) → i < 16 → slice_index b1 i ≡ slice_index (slice_index bytes (at - 1) ∷ chunk at 16 bytes) i)
    → slice_index (slice_index bytes (at - 2) ∷ b1) i ≡ slice_index bytes (at - 2 + i)
before-two bytes b1 at zero some below one = ap (slice_index bytes) (omega arith)
before-two bytes b1 at (suc i) some below one =
    one i (omega (arith, below)) ∙ before-one bytes at i (omega (arith, some)) (omega (arith, below)) ∙ ap (slice_index bytes) (omega (arith, some))

-- a limit above all of the next n bytes is above each of them
pub further-below : (bytes : List ℕ) (at limit n i place : ℕ) → place ≡ at + i → i < n → AreBelow n bytes at limit → slice_index bytes place < limit
further-below bytes at limit n i place is below all = omega (arith, ap (slice_index bytes) is, all i below)

-- ---- the first sixteen bytes, which no bytes precede

pub first-one : (bytes b2 b1 : List ℕ) (at : ℕ) → AreBefore 0 0 (chunk at 16 bytes) b2 b1 → (i : ℕ) → i < 16 → slice_index b1 i ≡ slice_index (0 ∷ drop at bytes) i
first-one bytes b2 b1 at before i below = before.one.lanes i below ∙ behind-take 1 16 bytes at i below

pub first-two : (bytes b2 b1 : List ℕ) (at : ℕ) → AreBefore 0 0 (chunk at 16 bytes) b2 b1 → (i : ℕ) → i < 16 → slice_index b2 i ≡ slice_index (0 ∷ 0 ∷ drop at bytes) i
first-two bytes b2 b1 at before i below = before.two.lanes i below ∙ later-lanes b1 (0 ∷ chunk at 16 bytes) before.one.lanes i below ∙ behind-take 2 16 bytes at i below

pub first-three : (bytes b3 b2 b1 : List ℕ) (at : ℕ) → AreBefore 0 0 (chunk at 16 bytes) b2 b1 → HasLanes 16 b3 (λ i. slice_index (0 ∷ b2) i)
    → (i : ℕ) → i < 16 → slice_index b3 i ≡ slice_index (0 ∷ 0 ∷ 0 ∷ drop at bytes) i
first-three bytes b3 b2 b1 at before third i below = third.lanes i below ∙ later-lanes b2 (0 ∷ 0 ∷ drop at bytes) (first-two bytes b2 b1 at before) i below

-- a statement about a byte and the two before it, at a place
abbrev pub At : (ℕ → ℕ → ℕ → Type 0) → List ℕ → ℕ → ℕ → Type 0
At P bytes at i = P (slice_index (0 ∷ 0 ∷ drop at bytes) i) (slice_index (0 ∷ drop at bytes) i) (slice_index bytes (at + i))

-- ---- characters of at most three bytes

-- after the first byte of three comes no first byte
pub apart : (bytes : List ℕ) (at n i : ℕ) → i < n → FollowTo n bytes at → (slice_index (0 ∷ 0 ∷ drop at bytes) i < 0xE0) ⊎ (slice_index (0 ∷ drop at bytes) i < 0xC0)
apart bytes at n zero below all = inl (omega arith)
apart bytes at n (suc i) below all = ⊎_elim
    (λ (a : slice_index (0 ∷ drop at bytes) i < 0xE0). inl a)
    (λ (a : 0xE0 ≤ slice_index (0 ∷ drop at bytes) i). inr (omega (arith, get_or-drop at bytes i 0, ((all i (omega (arith, below))).continues.0 (inl (omega (arith, a)))).1)))
    (cases_lt (slice_index (0 ∷ drop at bytes) i) 0xE0)

pub follows-two : (bytes : List ℕ) (at limit n : ℕ) → 0 < limit → limit ≤ 0xF0 → AreBelow n bytes at limit → FollowTo n bytes at → (i : ℕ) → i < n → At (FollowsTwo limit) bytes at i
follows-two bytes at limit n some most below all i within =
    let here = all i within in
    record {
      continues = (
        (λ is. ⊎_elim (λ a. here.continues.0 (inl a)) (λ a. here.continues.0 (inr (inl a))) is),
        (λ cont. ⊎_elim
            (λ (a : 0xC0 ≤ slice_index (0 ∷ drop at bytes) i). inl a)
            (λ more. ⊎_elim
            (λ (a : 0xE0 ≤ slice_index (0 ∷ 0 ∷ drop at bytes) i). inr a)
            (λ (a : 0xF0 ≤ slice_index (0 ∷ 0 ∷ 0 ∷ drop at bytes) i). absurd (omega (arith, a, most, behind-below 3 bytes at i n limit some within below)))
            more)
            (here.continues.1 cont)),
      );
      apart = apart bytes at n i within all;
      two = behind-below 2 bytes at i n limit some within below;
      one = behind-below 1 bytes at i n limit some within below;
    }

-- ---- characters of at most four bytes

-- after the first byte of four come two continuation bytes
last : (bytes : List ℕ) (at n i : ℕ) → i < n → FollowTo n bytes at → 0xF0 ≤ slice_index (0 ∷ 0 ∷ 0 ∷ drop at bytes) i
    → (slice_index (0 ∷ drop at bytes) i < 0xC0) × (slice_index (0 ∷ 0 ∷ drop at bytes) i < 0xC0)
last bytes at n zero below all first = (omega arith, omega arith)
last bytes at n (suc zero) below all first = absurd (omega (arith, first))
last bytes at n (suc (suc i)) below all first =
    let two = get_or-drop at bytes i 0 in
    let one = get_or-drop at bytes (suc i) 0 in (
      omega (arith, one, ((all (suc i) (omega (arith, below))).continues.0 (inr (inl (omega (arith, first))))).1),
      omega (arith, two, ((all i (omega (arith, below))).continues.0 (inl (omega (arith, first)))).1),
    )

begins : (bytes : List ℕ) (at n i : ℕ) → i < n → FollowTo n bytes at → slice_index (0 ∷ 0 ∷ drop at bytes) i < 0xF5
begins bytes at n zero below all = omega arith
begins bytes at n (suc zero) below all = omega arith
begins bytes at n (suc (suc i)) below all = ⊎_elim
    (λ (a : slice_index bytes (at + i) < 0xC0). omega (arith, get_or-drop at bytes i 0, a))
    (λ a. omega (arith, get_or-drop at bytes i 0, a.1))
    (all i (omega (arith, below))).begins

pub follows-any : (bytes : List ℕ) (at n : ℕ) → FollowTo n bytes at → (i : ℕ) → i < n → At FollowsAny bytes at i
follows-any bytes at n all i within = record {
  continues = λ is. ⊎_elim (λ a. (all i within).continues.0 (inl a)) (λ a. (all i within).continues.0 (inr (inl a))) is;
  apart = apart bytes at n i within all;
  last = λ cont. ⊎_elim (λ a. inl a) (λ more. ⊎_elim (λ a. inr (inl a)) (λ a. inr (inr (last bytes at n i within all a))) more) ((all i within).continues.1 cont);
  begins = begins bytes at n i within all;
}

-- ---- what holds at each of n bytes, in lanes

pub first-lanes : (P : ℕ → ℕ → ℕ → Type 0) (bytes b2 b1 : List ℕ) (at n : ℕ) → 16 ≤ n → ((i : ℕ) → i < n → At P bytes at i) → AreBefore 0 0 (chunk at 16 bytes) b2 b1
    → (i : ℕ) → i < 16 → P (slice_index b2 i) (slice_index b1 i) (slice_index (chunk at 16 bytes) i)
first-lanes P bytes b2 b1 at n many each before i few =
    same-three P _ _ _ _ _ _ (first-two bytes b2 b1 at before i few) (first-one bytes b2 b1 at before i few) (get_or-chunk at 16 bytes i 0 few) (each i (omega (arith, few, many)))

pub next-lanes : (P : ℕ → ℕ → ℕ → Type 0) (bytes b2 b1 : List ℕ) (at n k : ℕ) → 16 ≤ k → k + 16 ≤ n → ((i : ℕ) → k ≤ i → i < n → At P bytes at i)
    → AreBefore (slice_index bytes (at + k - 2)) (slice_index bytes (at + k - 1)) (chunk (at + k) 16 bytes) b2 b1
    → (i : ℕ) → i < 16 → P (slice_index b2 i) (slice_index b1 i) (slice_index (chunk (at + k) 16 bytes) i)
next-lanes P bytes b2 b1 at n k some within each before i few =
    same-three P _ _ _ _ _ _
    (before.two.lanes i few ∙ before-two bytes b1 (at + k) i (omega (arith, some)) few before.one.lanes
    ∙ ap (slice_index bytes) (omega (arith, some)) ∙ sym (behind-at 2 bytes at (k + i) (omega (arith, some))))
    (before.one.lanes i few ∙ before-one bytes (at + k) i (omega (arith, some)) few ∙ ap (slice_index bytes) (omega (arith, some)) ∙ sym (behind-at 1 bytes at (k + i) (omega (arith, some))))
    (get_or-chunk (at + k) 16 bytes i 0 few ∙ ap (slice_index bytes) (omega arith))
    (each (k + i) (omega arith) (omega (arith, within, few)))
