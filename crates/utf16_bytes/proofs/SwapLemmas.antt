-- Bytes swapped in pairs, a few at a time.
use Rattle.std.proofs.Common.{◌≡◌, ℕ, zero, suc, ◌+◌, ◌≤◌, Bool, true, false, not, List, [], ◌∷◌, ◌++◌, length, take, drop, get_or, slice_index, refl, sym, ap, ap₂, ◌∙◌, arith, append_assoc, drop-drop, length-drop, take-append-drop, ◌-◌, ◌<◌}
use Rattle.std.proofs.lemmas.List.{drop_more}
use Rattle.std.proofs.lemmas.Simd.{chunk-drop, length-chunk, put_chunk_is}
use Rattle.std.proofs.Math.Seq.{drop-append-add, drop-append_seam}
use Rattle.std.proofs.lemmas.List.{length-take-le}
use lib.Lanes.{pick_l, put_chunk}
use mathlib.Core.Bool.{beq}
use Rattle.std.proofs.lemmas.Bool.{false≢true}
use Rattle.utf16_units.specs.Encoding.{Encodes}
use Rattle.utf16_units.specs.Laws.{swap_bytes}
use Rattle.utf16_units.proofs.LawProofs.{swapped_orders}

-- the swapped bytes of a text are the bytes of the text in the other byte order
pub Encodes-swapped : (big : Bool) (text bytes : List ℕ) → Encodes big text bytes → Encodes (not big) text (swap_bytes bytes)
Encodes-swapped big text bytes e = record { scalars = e.scalars; spelled = swapped_orders big text ∙ ap swap_bytes e.spelled }

-- the bytes before an even offset and the bytes after it are swapped independently
pub swap_bytes-append : (n : ℕ) (bytes more : List ℕ) → length bytes ≡ n + n → swap_bytes (bytes ++ more) ≡ swap_bytes bytes ++ swap_bytes more
unfolding swap_bytes
swap_bytes-append zero [] more long = refl
swap_bytes-append zero (x ∷ bytes) more long = absurd (omega arith)
swap_bytes-append (suc n) [] more long = absurd (omega arith)
swap_bytes-append (suc n) (x ∷ []) more long = absurd (omega arith)
swap_bytes-append (suc n) (x ∷ y ∷ bytes) more long = ap (λ t. y ∷ x ∷ t) (swap_bytes-append n bytes more (omega arith))

-- from i on, the second position of each pair before the first
abbrev pub swapped_positions : ℕ → ℕ → List ℕ
swapped_positions i zero = []
swapped_positions i (suc n) = suc i ∷ i ∷ swapped_positions (suc (suc i)) n

swapped-past : (x y i n : ℕ) (bytes : List ℕ) → pick_l 0 (x ∷ y ∷ bytes) (swapped_positions (suc (suc i)) n) ≡ pick_l 0 bytes (swapped_positions i n)
swapped-past x y i zero bytes = refl
swapped-past x y i (suc n) bytes = ap (λ t. get_or bytes (suc i) 0 ∷ get_or bytes i 0 ∷ t) (swapped-past x y (suc (suc i)) n bytes)

pub swapped-picked : (n : ℕ) (bytes more : List ℕ) → length bytes ≡ n + n → pick_l 0 (bytes ++ more) (swapped_positions 0 n) ≡ swap_bytes bytes
unfolding swap_bytes
swapped-picked zero [] more long = refl
swapped-picked zero (x ∷ bytes) more long = absurd (omega arith)
swapped-picked (suc n) [] more long = absurd (omega arith)
swapped-picked (suc n) (x ∷ []) more long = absurd (omega arith)
swapped-picked (suc n) (x ∷ y ∷ bytes) more long = ap (λ t. y ∷ x ∷ t) (swapped-past x y 0 n (bytes ++ more) ∙ swapped-picked n bytes more (omega arith))

pub length-swap_bytes : (n : ℕ) (bytes : List ℕ) → length bytes ≡ n + n → length (swap_bytes bytes) ≡ length bytes
unfolding swap_bytes
length-swap_bytes zero [] long = refl
length-swap_bytes zero (x ∷ bytes) long = absurd (omega arith)
length-swap_bytes (suc n) [] long = absurd (omega arith)
length-swap_bytes (suc n) (x ∷ []) long = absurd (omega arith)
length-swap_bytes (suc n) (x ∷ y ∷ bytes) long = omega (arith, length-swap_bytes n bytes (omega arith))

swap_bytes-two : (x y : ℕ) → swap_bytes (x ∷ y ∷ []) ≡ y ∷ x ∷ []
unfolding swap_bytes
swap_bytes-two x y = refl

-- the next two bytes are swapped
pub swapped_two : (raw : List ℕ) (at : ℕ) → at + 2 ≤ length raw → swap_bytes (take 2 (drop at raw)) ≡ slice_index raw (at + 1) ∷ slice_index raw at ∷ []
swapped_two raw at room =
    let cut : drop at raw ≡ slice_index raw at ∷ slice_index raw (at + 1) ∷ drop (at + 1 + 1) raw =
    drop_more raw at 0 (omega arith) ∙ ap (λ t. slice_index raw at ∷ t) (drop_more raw (at + 1) 0 (omega arith)) in
    ap (λ t. swap_bytes (take 2 t)) cut ∙ swap_bytes-two (slice_index raw at) (slice_index raw (at + 1))

-- storing bytes does not change the bytes after them
pub drop-put_chunk : (at n : ℕ) (raw bytes : List ℕ) → n ≡ length bytes → at + n ≤ length raw → drop (at + n) (put_chunk at raw bytes) ≡ drop (at + n) raw
drop-put_chunk at n raw bytes long room =
    let front = length-take-le at raw (omega arith) in
    ap (drop (at + n)) (put_chunk_is at raw bytes (omega arith))
    ∙ ap (λ k. drop (k + n) (take at raw ++ (bytes ++ drop (length bytes) (drop at raw)))) (sym front)
    ∙ drop-append-add (take at raw) (bytes ++ drop (length bytes) (drop at raw)) n
    ∙ ap (λ k. drop k (bytes ++ drop (length bytes) (drop at raw))) long
    ∙ drop-append_seam bytes (drop (length bytes) (drop at raw))
    ∙ ap (λ k. drop k (drop at raw)) (sym long)
    ∙ drop-drop n at raw

-- the bytes up to an offset are swapped; with the remaining bytes swapped too, they are all bytes
-- swapped
abbrev pub SwappedTo : List ℕ → List ℕ → ℕ → Type 0
SwappedTo old now at = (at ≤ length now) × (take at now ++ swap_bytes (drop at now) ≡ swap_bytes old)

pub SwappedTo-next : (old now new : List ℕ) (at n : ℕ) → at + (n + n) ≤ length new → length new ≡ length now
    → take (at + (n + n)) new ≡ take at now ++ swap_bytes (take (n + n) (drop at now)) → drop (at + (n + n)) new ≡ drop (at + (n + n)) now
    → SwappedTo old now at → SwappedTo old new (at + (n + n))
SwappedTo-next old now new at n room same front behind so =
    let here = take (n + n) (drop at now) in
    let rest = drop (at + (n + n)) now in (
      room,
      ap₂ (λ s t. s ++ swap_bytes t) front behind
          ∙ append_assoc (take at now) (swap_bytes here) (swap_bytes rest)
          ∙ ap (λ t. take at now ++ t) (sym (ap swap_bytes (chunk-drop at (n + n) now) ∙ swap_bytes-append n here rest (length-chunk at (n + n) now (omega (arith, room, same)))))
          ∙ so.1,
    )

swap_bytes-few : (bytes : List ℕ) → length bytes < 2 → swap_bytes bytes ≡ bytes
unfolding swap_bytes
swap_bytes-few [] few = refl
swap_bytes-few (x ∷ []) few = refl
swap_bytes-few (x ∷ y ∷ bytes) few = absurd (omega arith)

-- if less than a code unit remains, all code units are swapped
pub SwappedTo-all : (old now : List ℕ) (at : ℕ) → SwappedTo old now at → length now - at < 2 → now ≡ swap_bytes old
SwappedTo-all old now at so few =
    sym (ap (λ t. take at now ++ t) (swap_bytes-few (drop at now) (omega (arith, length-drop at now, few))) ∙ take-append-drop at now) ∙ so.1

-- of two byte orders that are not equal, one is the opposite of the other
pub opposite_order : (x y : Bool) → not (beq x y) ≡ true → not x ≡ y
opposite_order true true e = absurd (false≢true e)
opposite_order true false e = refl
opposite_order false true e = refl
opposite_order false false e = absurd (false≢true e)

pub same_order : (x y : Bool) → not (beq x y) ≡ false → x ≡ y
same_order true true e = refl
same_order true false e = absurd (false≢true (sym e))
same_order false true e = absurd (false≢true (sym e))
same_order false false e = refl
