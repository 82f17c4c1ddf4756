-- Chunks that were read and written, one after another.
use Rattle.std.proofs.Common.{◌≡◌, ℕ, ◌+◌, ◌-◌, ◌<◌, ◌≤◌, List, [], ◌++◌, Option, None, Some, length, take, drop, sym, ap, ◌∙◌, subst, ⊎_elim, arith, append-nil, append_assoc, length-append, length-drop, length-take-le, take_all, take-add, take-append-drop}
use borrow.Rule.Slice.PartMut.{put_mid}
use Rattle.std.proofs.lemmas.Bool.{cases_lt}
use Rattle.std.proofs.lemmas.List.{take-append-le, take_rest}
use Rattle.std.specs.Char.{IsScalar}
use Rattle.utf16_units.proofs.IllFormedLemmas.{rest_from, take-past}
use Rattle.utf16_transcode.specs.Transcoded.{Joins, WritesAt, Writes}
use Rattle.utf16_transcode.specs.Stops.{BeginsWith, NextDoesNotFit, Stops, StopsHere}
use Rattle.utf16_transcode.specs.declared.progress.Stop.{Stop}
use Rattle.utf16_transcode.specs.declared.progress.Stop.TheVariants.{Incomplete, Done, IllFormed, NoSpace}

-- one more chunk appended to what was written
pub Writes-then : {SameText : List ℕ → List ℕ → Type 0} → Joins SameText → (input old new : List ℕ) (read at len last : ℕ) → Writes SameText input old read at
    → WritesAt SameText (rest_from input read) old new at len last → Writes SameText input new (read + len) last
Writes-then {SameText} joins input old new read at len last before piece =
    let rest : rest_from input read ≡ drop read input = take_rest input read in
    let long = ap length rest ∙ length-drop read input in
    let within = before.within in
    let few = piece.within in
    record {
      within = omega arith;
      fits = piece.fits;
      gives =
          subst (λ i. SameText i (take last new)) (ap (λ r. take read input ++ take len r) rest ∙ sym (take-add read len input))
          (subst (SameText (take read input ++ take len (rest_from input read))) (sym piece.bytes)
          (joins (take read input) (take len (rest_from input read)) (take at old) piece.added before.gives piece.gives));
    }

-- nothing was read
pub Writes-none : {SameText : List ℕ → List ℕ → Type 0} → SameText [] [] → (input to : List ℕ) → Writes SameText input to 0 0
Writes-none empty input to = record { within = omega arith; fits = omega arith; gives = empty }

-- nothing was written
pub WritesAt-none : {SameText : List ℕ → List ℕ → Type 0} → SameText [] [] → (rest old new : List ℕ) (at : ℕ) → at ≤ length old → new ≡ old
    → WritesAt SameText rest old new at 0 at
WritesAt-none empty rest old new at within kept = record {
  within = omega arith;
  fits = omega (arith, ap length kept);
  added = [];
  gives = empty;
  bytes = ap (take at) kept ∙ sym (append-nil (take at old));
}

-- one more chunk after others
pub WritesAt-then : {SameText : List ℕ → List ℕ → Type 0} → Joins SameText → (rest old mid new : List ℕ) (at read end len last : ℕ) → WritesAt SameText rest old mid at read end
    → WritesAt SameText (rest_from rest read) mid new end len last → WritesAt SameText rest old new at (read + len) last
WritesAt-then {SameText} joins rest old mid new at read end len last before piece =
    let behind : rest_from rest read ≡ drop read rest = take_rest rest read in
    let long = ap length behind ∙ length-drop read rest in
    let within = before.within in
    let few = piece.within in
    record {
      within = omega arith;
      fits = piece.fits;
      added = before.added ++ piece.added;
      gives =
          subst (λ i. SameText i (before.added ++ piece.added)) (ap (λ r. take read rest ++ take len r) behind ∙ sym (take-add read len rest))
          (joins (take read rest) (take len (rest_from rest read)) before.added piece.added before.gives piece.gives);
      bytes = piece.bytes ∙ ap (λ b. b ++ piece.added) before.bytes ∙ append_assoc (take at old) before.added piece.added;
    }

-- a buffer whose end was overwritten has the same length
pub put_end-long : (at : ℕ) (old part : List ℕ) → at ≤ length old → length part ≡ length old - at → length (put_mid at (length old - at) old part) ≡ length old
put_end-long at old part within long =
    let all = length-append (take at old) (part ++ drop (length old - at) (drop at old)) in
    let both = length-append part (drop (length old - at) (drop at old)) in
    let front = length-take-le at old within in
    let last = length-drop (length old - at) (drop at old) in
    let behind = length-drop at old in
    omega arith

-- what was written to the start of a buffer's end follows what was written before
pub take-end : (at n : ℕ) (old part : List ℕ) → at ≤ length old → length part ≡ length old - at → n ≤ length part
    → take (at + n) (put_mid at (length old - at) old part) ≡ take at old ++ take n part
take-end at n old part within long few =
    let front = length-take-le at old within in
    let after = drop (length old - at) (drop at old) in
    ap (λ k. take (k + n) (take at old ++ (part ++ after))) (sym front) ∙ take-past (take at old) (part ++ after) n
    ∙ ap (λ t. take at old ++ t) (take-append-le n part after few)

-- a character at the start of the rest
module _ (from into : ℕ → List ℕ) (rest : List ℕ) (c n : ℕ) (first : BeginsWith from rest c n) where
  pub first_gives : (Given : List ℕ → List ℕ → Type 0) → ((c : ℕ) → IsScalar c → Given (from c) (into c)) → Given (take n rest) (into c)
  first_gives Given chars = subst (λ b. Given b (into c)) (sym first.spelled) (chars c first.scalar)

  pub first_does_not_fit : (left : ℕ) → left < length (into c) → NextDoesNotFit from into rest left
  first_does_not_fit left long = record {
    char = c;
    more = drop n rest;
    scalar = first.scalar;
    begins = sym (take-append-drop n rest) ∙ ap (λ t. t ++ drop n rest) first.spelled;
    too_long = long;
  }

-- why a call stopped, stated of the whole input
module _ (from into : ℕ → List ℕ) (IsValid : List ℕ → Type 0) (IsIllFormedAt : List ℕ → Option ℕ → Type 0) (IsIllFormed : List ℕ → ℕ → Option ℕ → Type 0)
    (faults : (input : List ℕ) (read : ℕ) (len : Option ℕ) → read < length input → IsValid (take read input) → IsIllFormedAt (drop read input) len → IsIllFormed input read len)
    (input : List ℕ) (read left : ℕ) (within : read < length input) (text : IsValid (take read input)) where
  pub stops_there : (stop : Stop) → StopsHere from into IsIllFormedAt (rest_from input read) left stop → Stops from into IsIllFormed input read left stop
  stops_there Done here = absurd here
  stops_there (IllFormed len) here = faults input read (Some len) within text (subst (λ r. IsIllFormedAt r (Some len)) (take_rest input read) here)
  stops_there Incomplete here = faults input read None within text (subst (λ r. IsIllFormedAt r None) (take_rest input read) here)
  stops_there NoSpace here = subst (λ r. NextDoesNotFit from into r left) (take_rest input read) here

-- the number of bytes written is their length, if they fit
pub long_enough : (n : ℕ) (buf bytes : List ℕ) → take n buf ≡ bytes → n ≤ length buf → n ≡ length bytes
long_enough n buf bytes is room = sym (length-take-le n buf room) ∙ ap length is

-- if taking n bytes gives n bytes, there are at least n
pub enough : (n : ℕ) (bytes front : List ℕ) → take n bytes ≡ front → n ≡ length front → n ≤ length bytes
enough n bytes front is long = ⊎_elim
    (λ (short : length bytes < n).
    let all = take_all n bytes (omega arith) in
    omega (arith, ap length (sym all ∙ is)))
    (λ (le : n ≤ length bytes). le)
    (cases_lt (length bytes) n)

-- a chunk was written directly to its place
pub WritesAt-put : {SameText : List ℕ → List ℕ → Type 0} (rest old part added : List ℕ) (at len n : ℕ) → at ≤ length old
    → length part ≡ length old - at → len ≤ length rest → SameText (take len rest) added → take n part ≡ added → n ≤ length part
    → WritesAt SameText rest old (put_mid at (length old - at) old part) at len (at + n)
WritesAt-put rest old part added at len n within long few gives is room =
    let all = length-append (take at old) (part ++ drop (length old - at) (drop at old)) in
    let both = length-append part (drop (length old - at) (drop at old)) in
    let front = length-take-le at old within in
    record {
      within = few;
      fits = omega arith;
      added = added;
      gives = gives;
      bytes = take-end at n old part within long room ∙ ap (λ t. take at old ++ t) is;
    }
