-- Decoding bytes that are in two places, and which of these bytes are pending.
use Rattle.std.proofs.Common.{◌≡◌, ◌⊎◌, inl, inr, ℕ, ◌+◌, ◌-◌, ◌<◌, ◌≤◌, List, [], ◌++◌, length, map, take, drop, refl, sym, ap, ap₂, ◌∙◌, subst, arith, append-nil, length-append, length-drop, length-take, length-take-le, take-append-drop, take_all, ⊎_elim}
use borrow.Rule.Slice.PartMut.{put_mid}
use Rattle.std.proofs.Math.Seq.{drop-append-add}
use Rattle.std.proofs.lemmas.Bool.{cases_lt}
use Rattle.std.proofs.lemmas.List.{drop-append-le, drop-drop, drop_all, map-append, take_rest}
use Rattle.std.specs.List.{flat_map}
use Rattle.utf16_units.proofs.IllFormedLemmas.{rest_from, take-past}
use Rattle.utf16_transcode.specs.Decodes.{DecodesAs}
use Rattle.utf16_transcode.specs.StreamSplit.{StreamSplit, IsSplitInChunks, decided}
use Rattle.utf16_transcode.proofs.DecodesSteps.{Decodes-end, Decodes-more, Decodes-none, Decodes-then, tail_again, written_for, written_for-append}
use Rattle.utf16_transcode.specs.Transcoded.{DecodesAsTo}
use Rattle.utf16_transcode.specs.Stops.{StopsPartial, TextDoesNotFit}
use Rattle.utf16_transcode.specs.Stream.{FeedsAs, StopsFeeding}
use Rattle.utf16_transcode.specs.declared.progress.Stop.{Stop}
use Rattle.utf16_transcode.specs.declared.progress.Stop.TheVariants.{Incomplete, Done, IllFormed, NoSpace}
use Rattle.utf16_transcode.proofs.TranscodedLemmas.{put_end-long, take-end}

-- the rest after more bytes
pub rest_after : (input : List ℕ) (read n : ℕ) → drop n (rest_from input read) ≡ rest_from input (read + n)
rest_after input read n = ap (drop n) (take_rest input read) ∙ drop-drop n read input ∙ sym (take_rest input (read + n))

-- the first bytes of pending bytes and a chunk
pub start_bytes : (most : ℕ) (pending piece : List ℕ) (n : ℕ) → length pending ≤ most → n ≤ most - length pending → (length piece ≤ n) ⊎ (most - length pending ≤ n)
    → pending ++ take n piece ≡ take most (pending ++ piece)
start_bytes most pending piece n few within enough =
    let same : length pending + (most - length pending) ≡ most = omega (arith, few) in
    ap (λ t. pending ++ t) front ∙ sym (take-past pending piece (most - length pending)) ∙ ap (λ k. take k (pending ++ piece)) same where
      front : take n piece ≡ take (most - length pending) piece
      front = ⊎_elim
          (λ (all : length piece ≤ n). take_all n piece all ∙ sym (take_all (most - length pending) piece (omega (arith, all, within))))
          (λ (many : most - length pending ≤ n). ap (λ k. take k piece) (omega (arith, many, within)))
          enough

-- what follows an offset in pending bytes and a chunk
pub join_drop : (pending piece : List ℕ) (at : ℕ) → drop at pending ++ drop (at - length pending) piece ≡ drop at (pending ++ piece)
join_drop pending piece at = ⊎_elim
    (λ (before : at < length pending).
    let zero : at - length pending ≡ 0 = omega (arith, before) in
    ap (λ k. drop at pending ++ drop k piece) zero ∙ sym (drop-append-le at pending piece (omega (arith, before))))
    (λ (behind : length pending ≤ at).
    let same : length pending + (at - length pending) ≡ at = omega (arith, behind) in
    ap (λ h. h ++ drop (at - length pending) piece) (drop_all at pending behind)
    ∙ sym (drop-append-add pending piece (at - length pending)) ∙ ap (λ k. drop k (pending ++ piece)) same)
    (cases_lt at (length pending))

-- nothing is decoded
pub DecodesTo-none : (parts : StreamSplit) (into : ℕ → List ℕ) (input to : List ℕ) → DecodesAsTo parts into input to 0 0
DecodesTo-none parts into input to = record { within = omega arith; fits = omega arith; decodes = Decodes-none parts into input [] }

-- the first bytes of the rest were decoded, and what is shown of them appended
module _ (parts : StreamSplit) (into : ℕ → List ℕ) (split : IsSplitInChunks parts) (input old part window next : List ℕ) (read at n w : ℕ)
    (before : DecodesAsTo parts into input old read at) (joined : window ++ next ≡ drop read input) (front : DecodesAsTo parts into window part n w)
    (long : length part ≡ length old - at) where
  abbrev new : List ℕ
  new = put_mid at (length old - at) old part

  new_long : length new ≡ length old
  new_long = put_end-long at old part before.fits long

  left : drop n window ++ next ≡ drop (read + n) input
  left = sym (drop-append-le n window next front.within) ∙ ap (drop n) joined ∙ drop-drop n read input

  pub DecodesTo-window : DecodesAsTo parts into input new (read + n) (at + w)
  DecodesTo-window =
      let within = before.within in
      let room = before.fits in
      let few = front.within in
      let fits = front.fits in
      let all = new_long in
      let size = sym (length-append window next) ∙ ap length joined ∙ length-drop read input in
      record {
        within = omega arith;
        fits = omega arith;
        decodes =
            Decodes-then parts into input (drop read input) (drop (read + n) input) [] (take at old) (take (at + w) new) before.decodes
            (subst (λ t. DecodesAs parts into (drop read input) (drop (read + n) input) (take at old) t) (sym (take-end at w old part before.fits long front.fits))
            (subst (λ r. DecodesAs parts into (drop read input) r (take at old) (take at old ++ take w part)) left
            (subst (λ b. DecodesAs parts into b (drop n window ++ next) (take at old) (take at old ++ take w part)) joined
            (Decodes-more parts into split window (drop n window) next (take at old) (take w part) front.decodes))));
      }

  left_over : length part - w ≡ length new - (at + w)
  left_over = let all = new_long in omega (arith, long)

  -- why it stopped there, if it stopped for lack of space or no bytes follow
  pub stops_window : (stop : Stop) → (stop ≡ NoSpace) ⊎ (next ≡ []) → StopsPartial parts into (drop n window) (length part - w) stop
      → StopsPartial parts into (drop (read + n) input) (length new - (at + w)) stop
  stops_window stop (inr none) here =
      subst (λ r. StopsPartial parts into r (length new - (at + w)) stop) (sym (append-nil (drop n window)) ∙ ap (λ b. drop n window ++ b) (sym none) ∙ left)
      (subst (λ k. StopsPartial parts into (drop n window) k stop) left_over here)
  stops_window NoSpace (inl full) here = record {
    char = here.char;
    more = here.more ++ decided parts (parts.tail (drop n window) ++ next);
    begins =
        ap (decided parts) (sym left) ∙ ap (map parts.shown) (split.items (drop n window) next)
        ∙ map-append parts.shown (parts.items (drop n window)) (parts.items (parts.tail (drop n window) ++ next))
        ∙ ap (λ t. t ++ decided parts (parts.tail (drop n window) ++ next)) here.begins;
    too_long = subst (λ k. k < length (into here.char)) left_over here.too_long;
  }
  stops_window Done (inl full) here = absurd (cc)
  stops_window (IllFormed len) (inl full) here = absurd (cc)
  stops_window Incomplete (inl full) here = absurd (cc)

-- such a step over all of the rest, as a slice from `read` on
module _ (parts : StreamSplit) (into : ℕ → List ℕ) (split : IsSplitInChunks parts) (input old part : List ℕ) (read at n w : ℕ)
    (before : DecodesAsTo parts into input old read at) (front : DecodesAsTo parts into (rest_from input read) part n w) (long : length part ≡ length old - at) where
  abbrev joined : rest_from input read ++ [] ≡ drop read input
  joined = append-nil (rest_from input read) ∙ take_rest input read

  pub DecodesTo-rest : DecodesAsTo parts into input (put_mid at (length old - at) old part) (read + n) (at + w)
  DecodesTo-rest = DecodesTo-window parts into split input old part (rest_from input read) [] read at n w before joined front long

  -- if nothing of it was decoded, what was written stays
  pub DecodesTo-kept : n ≡ 0 → w ≡ 0 → DecodesAsTo parts into input (put_mid at (length old - at) old part) read at
  DecodesTo-kept none nothing =
      subst (λ k. DecodesAsTo parts into input (put_mid at (length old - at) old part) read k) (omega (arith, nothing))
      (subst (λ k. DecodesAsTo parts into input (put_mid at (length old - at) old part) k (at + w)) (omega (arith, none)) DecodesTo-rest)

  pub stops_rest : (stop : Stop) → StopsPartial parts into (drop n (rest_from input read)) (length part - w) stop
      → StopsPartial parts into (drop (read + n) input) (length (put_mid at (length old - at) old part) - (at + w)) stop
  stops_rest stop = stops_window parts into split input old part (rest_from input read) [] read at n w before joined front long stop (inr refl)

-- the four bytes at the chunk boundary
module _ (pending piece window : List ℕ) (read : ℕ) (within : read ≤ length pending) (is : window ≡ take 4 (rest_from pending read ++ piece)) where
  abbrev pub after_seam : List ℕ
  after_seam = drop 4 (drop read (pending ++ piece))

  start_is : window ≡ take 4 (drop read (pending ++ piece))
  start_is = is ∙ ap (λ h. take 4 (h ++ piece)) (take_rest pending read) ∙ ap (take 4) (sym (drop-append-le read pending piece within))

  pub start_joined : window ++ after_seam ≡ drop read (pending ++ piece)
  start_joined = ap (λ w. w ++ after_seam) start_is ∙ take-append-drop 4 (drop read (pending ++ piece))

  pub few_after : length window ≤ 3 → after_seam ≡ []
  few_after few =
      let short = ap length start_is ∙ length-take 4 (drop read (pending ++ piece)) in
      drop_all 4 (drop read (pending ++ piece)) (omega (arith, short, few))

  -- if none of them is decoded, they are the last ones, or there is no space
  pub start_stops : (parts : StreamSplit) (into : ℕ → List ℕ) → IsSplitInChunks parts → (n room : ℕ) (stop : Stop) → n ≡ 0
      → StopsPartial parts into (drop n window) room stop → (stop ≡ NoSpace) ⊎ (after_seam ≡ [])
  start_stops parts into split n room Done zero here = inr (few_after (omega (arith, zero, ap length here, length-drop n window)))
  start_stops parts into split n room (IllFormed len) zero here = absurd here
  start_stops parts into split n room Incomplete zero here =
      inr (few_after (omega (arith, zero, ap length here.1, split.few (drop n window), length-drop n window)))
  start_stops parts into split n room NoSpace zero here = inl refl

-- after the pending bytes, the rest of the chunk is all that is left
pub piece_joined : (pending piece : List ℕ) (read : ℕ) → length pending ≤ read → rest_from piece (read - length pending) ++ [] ≡ drop read (pending ++ piece)
piece_joined pending piece read past =
    append-nil (rest_from piece (read - length pending)) ∙ take_rest piece (read - length pending)
    ∙ ap (λ h. h ++ drop (read - length pending) piece) (sym (drop_all read pending past)) ∙ join_drop pending piece read

-- ---- what a stream holds

-- if a call did not stop for lack of space, the rest is pending
pub rest_undecided : (parts : StreamSplit) (into : ℕ → List ℕ) → IsSplitInChunks parts → (rest : List ℕ) (room : ℕ) (stop : Stop) → ¬ (stop ≡ NoSpace)
    → StopsPartial parts into rest room stop → parts.tail rest ≡ rest
rest_undecided parts into split rest room Done some here = ap parts.tail here ∙ split.nothing ∙ sym here
rest_undecided parts into split rest room (IllFormed len) some here = absurd here
rest_undecided parts into split rest room Incomplete some here = here.1
rest_undecided parts into split rest room NoSpace some here = absurd (some refl)

-- a part of pending bytes and a chunk was decoded
module _ (parts : StreamSplit) (into : ℕ → List ℕ) (split : IsSplitInChunks parts) (pending piece to : List ℕ) (at written : ℕ)
    (front : DecodesAsTo parts into (pending ++ piece) to at written) where
  abbrev all : List ℕ
  all = pending ++ piece

  abbrev rest : List ℕ
  rest = drop at all

  abbrev shown : List ℕ → List ℕ
  shown bytes = flat_map into (decided parts bytes)

  within : at ≤ length pending + length piece
  within = omega (arith, front.within, length-append pending piece)

  -- the output for all, by what was written
  shown_all : shown all ≡ take written to ++ shown rest
  shown_all =
      ap (written_for parts into) front.decodes.items ∙ written_for-append parts into front.decodes.taken (parts.items rest)
      ∙ ap (λ t. t ++ shown rest) (sym front.decodes.text)

  shown_long : length (shown all) ≡ written + length (shown rest)
  shown_long = ap length shown_all ∙ length-append (take written to) (shown rest) ∙ ap (λ n. n + length (shown rest)) (length-take-le written to front.fits)

  -- there is no space for the next character
  module _ (full : TextDoesNotFit into (decided parts rest) (length to - written)) (read : ℕ) (is : read ≡ length piece - length (drop (at - length pending) piece)) where
    read_is : read ≡ at - length pending
    read_is = let next = length-drop (at - length pending) piece in let fits = within in omega arith

    -- the stream then holds what is left of the pending bytes
    module _ (left : List ℕ) (left_is : left ≡ drop at pending) where
      rest_is : left ++ drop read piece ≡ rest
      rest_is = ap₂ (λ h k. h ++ drop k piece) left_is read_is ∙ join_drop pending piece at

      pub Feeds-full : FeedsAs parts into pending piece left to read written
      Feeds-full =
          let fits = within in
          record {
            within = omega (arith, is);
            fits = front.fits;
            decodes = subst (λ r. DecodesAs parts into all r [] (take written to)) (sym rest_is) front.decodes;
          }

      pub stops_full : StopsFeeding parts into pending piece left read (length to - written) NoSpace
      stops_full = (
        ⊎_elim
            (λ (before : at < length pending). inl (omega (arith, read_is, before)))
            (λ (past : length pending ≤ at). inr (left_is ∙ drop_all at pending past))
            (cases_lt at (length pending)),
        subst (λ b. TextDoesNotFit into (decided parts b) (length to - written)) (sym rest_is) full,
      )

    next_long : length (shown rest) ≡ length (into full.char) + length (flat_map into full.more)
    next_long = ap (λ t. length (flat_map into t)) full.begins ∙ length-append (into full.char) (flat_map into full.more)

    pub not_whole : ¬ (length (shown all) ≤ length to)
    not_whole whole = omega (arith, shown_long, next_long, full.too_long, whole)

    pub filled : ((c : ℕ) → length (into c) ≤ 4) → length to < written + 4
    filled short = omega (arith, full.too_long, short full.char)

  -- all was taken
  module _ (undecided : parts.tail rest ≡ rest) where
    pub few_left : length rest ≤ 3
    few_left = omega (arith, ap length undecided, split.few rest)

    pub Feeds-done : (left : List ℕ) → left ≡ rest → FeedsAs parts into pending piece left to (length piece) written
    Feeds-done left is = record {
      within = omega arith;
      fits = front.fits;
      decodes =
          subst (λ r. DecodesAs parts into all r [] (take written to))
          (sym is ∙ sym (append-nil left) ∙ ap (λ b. left ++ b) (sym (drop_all (length piece) piece (omega arith)))) front.decodes;
    }

    pub holds_tail : (left : List ℕ) → left ≡ rest → left ≡ parts.tail all
    holds_tail left is = is ∙ sym undecided ∙ sym front.decodes.tail

    pub is_whole : length (shown all) ≤ length to
    is_whole =
        let none = ap (λ i. length (written_for parts into i)) (split.undecided rest undecided) in
        omega (arith, shown_long, none, front.fits)

-- if all of a chunk was taken, all that is certain was written
pub fed_text : (parts : StreamSplit) (into : ℕ → List ℕ) (split : IsSplitInChunks parts) (pending piece left to : List ℕ) (read written room : ℕ)
    → FeedsAs parts into pending piece left to read written → StopsFeeding parts into pending piece left read room Done
    → take written to ≡ flat_map into (decided parts (pending ++ piece))
fed_text parts into split pending piece left to read written room feeds done =
    let undecided = ap parts.tail done.1 ∙ tail_again parts into split (pending ++ piece) ∙ sym done.1 in
    let rest : left ++ drop read piece ≡ left = ap (λ p. left ++ p) (drop_all read piece (omega (arith, done.0))) ∙ append-nil left in
    Decodes-end parts into (pending ++ piece) (left ++ drop read piece) [] (take written to) feeds.decodes (ap parts.items rest ∙ split.undecided left undecided)
