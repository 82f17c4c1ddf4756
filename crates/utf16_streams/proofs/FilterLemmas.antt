-- What a filter has read and written so far, and at each of its exits.
use Rattle.std.proofs.Common.{◌≡◌, ◌≢◌, ℕ, ◌+◌, ◌<◌, ◌≤◌, List, [], ◌++◌, Option, length, take, drop, sym, ap, ◌∙◌, subst, arith, append_assoc, length-append, take_at, take-append-drop, refl}
use Rattle.std.proofs.lemmas.List.{nil_from_length}
use Rattle.std.specs.Io.{StartsWith}
use Rattle.std.specs.Io.KnownBytes.{Appends, Consumes, IsAtEnd, Keeps}
use Rattle.std.proofs.KnownBytes.{Appends-nil, Appends-trans, Consumes-kept, Consumes-nil, Consumes-trans}
use Rattle.utf16_streams.specs.Continues.{Continues}
use Rattle.utf16_streams.specs.Filter.{AppendsPrefix, FiltersAll, FiltersBefore, FiltersPrefix, FiltersSome}

-- no bytes have come, and more bytes come after others
Continues-none : (decided whole : List ℕ → List ℕ) → decided [] ≡ [] → Continues decided whole decided whole []
Continues-none decided whole nothing = grind (arith)

Continues-more : (decided whole mid mid_whole last last_whole : List ℕ → List ℕ) (front piece : List ℕ) → Continues decided whole mid mid_whole front
    → Continues mid mid_whole last last_whole piece → Continues decided whole last last_whole (front ++ piece)
Continues-more decided whole mid mid_whole last last_whole front piece first second = grind (arith, append_assoc)

-- `reads` reads returned bytes; the output that is certain for them was written, and the transcoder
-- continues after them
pub record Filtering (decided whole : List ℕ → List ℕ) (input left old new : Option (List ℕ)) (decided_then whole_then : List ℕ → List ℕ) (reads : ℕ) : Type 0 where
  bytes : List ℕ
  consumed : Consumes input left bytes
  written : Appends old new (decided bytes)
  continues : Continues decided whole decided_then whole_then bytes
  many : reads ≤ length bytes

front_of : (front back : List ℕ) → take (length front) (front ++ back) ≡ front
front_of front back = take_at front back (length front) refl

-- before the first read
pub Filtering-start : (decided whole : List ℕ → List ℕ) (input old : Option (List ℕ)) → decided [] ≡ [] → Filtering decided whole input input old old decided whole 0
Filtering-start decided whole input old nothing = grind (arith, Consumes-nil, Appends-nil, Continues-none)

module _ (decided whole : List ℕ → List ℕ) (input left old new : Option (List ℕ)) (decided_then whole_then : List ℕ → List ℕ) (reads : ℕ)
    (so_far : Filtering decided whole input left old new decided_then whole_then reads) where
  abbrev bytes : List ℕ
  bytes = so_far.bytes

  -- the filter stops, and no byte was read since
  pub Filtering-some : (least : ℕ) (after : Option (List ℕ)) → least ≤ reads → Keeps left after → FiltersSome decided whole input after old new least
  Filtering-some least after few kept = grind (arith, Consumes-kept)

  module _ (piece : List ℕ) (after : Option (List ℕ)) (read : Consumes left after piece) where
    more_read : Consumes input after (bytes ++ piece)
    more_read = Consumes-trans input left after bytes piece so_far.consumed read

    long : length (bytes ++ piece) ≡ length bytes + length piece
    long = length-append bytes piece

    before : take (length bytes) (bytes ++ piece) ≡ bytes
    before = front_of bytes piece

    -- a read returned 0
    pub Filtering-end : (now : Option (List ℕ)) → piece ≡ [] → IsAtEnd after → Appends new now (whole_then []) → FiltersAll decided whole input after old now
    Filtering-end now none ended wrote = grind (arith, more_read, Appends-trans)

    -- a prefix of what the chunk adds was written, and a write failed
    pub Filtering-fault : (output rest : List ℕ) (now : Option (List ℕ)) → length piece ≤ 4096 → whole_then piece ≡ output ++ rest → AppendsPrefix new now output
        → FiltersPrefix decided whole input after old now
    Filtering-fault output rest now few adds wrote =
        let written = decided bytes ++ take wrote.0 output in (
          bytes ++ piece,
          more_read,
          (
            written,
            Appends-trans old new now (decided bytes) (take wrote.0 output) so_far.written wrote.1,
            ap (take (length written))
                (so_far.continues.all piece ∙ ap (λ o. decided bytes ++ o) (adds ∙ ap (λ o. o ++ rest) (sym (take-append-drop wrote.0 output)) ∙ append_assoc (take wrote.0 output) (drop wrote.0 output) rest)
                ∙ sym (append_assoc (decided bytes) (take wrote.0 output) (drop wrote.0 output ++ rest)))
                ∙ front_of written (drop wrote.0 output ++ rest),
            (
              length bytes,
              (omega (arith, long), omega (arith, long, few)),
              subst (λ b. StartsWith written (decided b)) (sym before) (front_of (decided bytes) (take wrote.0 output)),
            ),
          ),
        )

    -- allocation failed for a chunk that adds to the output
    pub Filtering-refused : 8 ≤ length piece → length piece ≤ 4096 → decided_then piece ≢ [] → FiltersBefore decided whole input after old new
    Filtering-refused some few adds =
        let no_more : decided (take (length bytes) (bytes ++ piece)) ≡ decided (bytes ++ piece) → decided_then piece ≡ [] = λ same. (
        let joined : decided bytes ≡ decided bytes ++ decided_then piece = ap decided (sym before) ∙ same ∙ so_far.continues.certain piece in
        nil_from_length (decided_then piece) (omega (arith, ap length joined, length-append (decided bytes) (decided_then piece)))
        ) in (
          bytes ++ piece,
          more_read,
          (
            length bytes,
            omega (arith, long, some),
            (omega (arith, long), omega (arith, long, few)),
            (λ same. adds (no_more same)),
            subst (λ b. Appends old new (decided b)) (sym before) so_far.written,
          ),
        )

    -- one more chunk
    pub Filtering-more : (output : List ℕ) (now : Option (List ℕ)) (last last_whole : List ℕ → List ℕ) → 0 < length piece → output ≡ decided_then piece
        → Continues decided_then whole_then last last_whole piece → Appends new now output → Filtering decided whole input after old now last last_whole (reads + 1)
    Filtering-more output now last last_whole some is continues wrote = grind (arith, more_read, Appends-trans, Continues-more, long)
