-- Calls of a stream of WTF-8, one after another.
use Rattle.std.proofs.Common.{◌≡◌, ◌≢◌, ◌⊎◌, inl, inr, ℕ, ◌+◌, ◌-◌, ◌<◌, ◌≤◌, Bool, List, [], ◌∷◌, ◌++◌, length, take, drop, refl, sym, ap, ap₂, ◌∙◌, subst, ⊎_elim, arith, append-nil, append_assoc, length-append, length-drop, length-take-le, take-append-drop}
use Rattle.std.proofs.lemmas.Bool.{cases_lt}
use Rattle.std.proofs.lemmas.List.{drop-append-le, drop-drop, drop_all, take-append-le, take_rest}
use Rattle.std.specs.List.{flat_map}
use Rattle.utf16_units.proofs.IllFormedLemmas.{rest_from}
use Rattle.utf16_transcode.specs.declared.progress.Stop.{Stop}
use Rattle.utf16_transcode.specs.declared.progress.Stop.TheVariants.{Incomplete, Done, IllFormed, NoSpace}
use Rattle.utf16_wtf8.specs.FromWtf8.{StopsFromWtf8, StopsFromWtf8Partial, TranscodesFromWtf8}
use Rattle.utf16_wtf8.specs.Stream.{FeedsWtf8, StopsFeedingWtf8, encoded_len}
use Rattle.utf16_wtf8.proofs.LongerLemmas.{IsDecided, not_cut, not_done, stops_longer}
use Rattle.utf16_wtf8.proofs.StreamLemmas.{Writes-fed, rest-fed}
use Rattle.uses_buffers.specs.Calls.{Feed, Feeding, FeedsAll, GoesOnWtf8, IsWtf8Feed, feed_output}
use Rattle.uses_buffers.specs.FormCalls.{Completes, IsCall}
use Rattle.uses_buffers.specs.Forms.{TakesWtf8, from_wtf8, from_wtf8_partial}
use Rattle.uses_buffers.proofs.ChunkLemmas.{Kept, chunk_step}
use Rattle.uses_buffers.proofs.CutLemmas.{from_wtf8_cuts}
use Rattle.uses_buffers.proofs.LoopLemmas.{Before, stopped, then_call}
use Rattle.uses_buffers.proofs.Wtf8Lemmas.{from_wtf8_joined, from_wtf8_nothing, from_wtf8_partial_joined}

-- why a call for a chunk stopped is why one for all bytes does, if more bytes do not change it
pub decided_call : (big : Bool) (front after out : List ℕ) (at room : ℕ) (stop : Stop) → IsDecided stop → IsCall (from_wtf8_partial big) front out at room stop
    → IsCall (from_wtf8 big) (front ++ after) out at room stop
decided_call big front after out at room stop decided call = record {
  within = omega (arith, call.within, length-append front after);
  writes = subst (λ b. TranscodesFromWtf8 big b out) (sym (take-append-le at front after call.within)) call.writes;
  stops = why stop decided (stops_longer big front after at room stop decided call.stops);
} where
  why : (stop : Stop) → IsDecided stop → StopsFromWtf8Partial big (front ++ after) at room stop → StopsFromWtf8 big (front ++ after) at room stop
  why Done decided here = absurd (not_done Done decided refl)
  why (IllFormed len) decided here = here
  why Incomplete decided here = absurd (not_cut Incomplete decided refl)
  why NoSpace decided here = here

-- ---- one call

module _ (big : Bool) (pending chunk left to : List ℕ) (read written : ℕ) (fed : FeedsWtf8 big pending chunk left to read written) where
  abbrev encoded : ℕ
  encoded = encoded_len pending left read

  -- what `from_wtf8_partial` does that is given the pending bytes and the chunk
  pub as_call : (room : ℕ) (stop : Stop) → StopsFromWtf8Partial big (pending ++ chunk) encoded room stop → IsCall (from_wtf8_partial big) (pending ++ chunk) (take written to) encoded room stop
  as_call room stop here =
      let wrote = Writes-fed big pending chunk left to read written fed in
      record { within = wrote.within; writes = wrote.gives; stops = here }

  -- what follows the chunk is left too
  pub left_after : (after : List ℕ) → left ++ drop read (chunk ++ after) ≡ drop encoded (pending ++ chunk) ++ after
  left_after after =
      ap (λ b. left ++ b) (drop-append-le read chunk after fed.within) ∙ sym (append_assoc left (drop read chunk) after)
      ∙ ap (λ b. b ++ after) (rest-fed big pending chunk left to read written fed)

  -- a call that is given what is left does the rest of what one call does
  pub continues : (after more : List ℕ) (n room left_room : ℕ) (stop last : Stop) → ((len : ℕ) → stop ≢ IllFormed len) → StopsFeedingWtf8 big pending chunk left read room stop
      → IsCall (from_wtf8 big) (left ++ drop read (chunk ++ after)) more n left_room last
      → IsCall (from_wtf8 big) ((pending ++ chunk) ++ after) (take written to ++ more) (encoded + n) left_room last
  continues after more n room left_room stop last none here call =
      why stop none here (subst (λ b. IsCall (from_wtf8 big) b more n left_room last) (left_after after) call) where
        why : (stop : Stop) → ((len : ℕ) → stop ≢ IllFormed len) → StopsFeedingWtf8 big pending chunk left read room stop
            → IsCall (from_wtf8 big) (drop encoded (pending ++ chunk) ++ after) more n left_room last
            → IsCall (from_wtf8 big) ((pending ++ chunk) ++ after) (take written to ++ more) (encoded + n) left_room last
        why Done none here call = ⊎_elim
            (λ (all : StopsFromWtf8Partial big (pending ++ chunk) encoded room Done).
            from_wtf8_cuts big (pending ++ chunk) after (take written to) more encoded n room left_room Done last (as_call room Done all) (inl refl) call)
            (λ (cut : StopsFromWtf8Partial big (pending ++ chunk) encoded room Incomplete).
            from_wtf8_cuts big (pending ++ chunk) after (take written to) more encoded n room left_room Incomplete last (as_call room Incomplete cut) (inr refl) call)
            here.1
        why (IllFormed len) none here call = absurd (none len refl)
        why Incomplete none here call = absurd here
        why NoSpace none here call =
            let first = as_call room NoSpace here.1 in
            from_wtf8_joined big ((pending ++ chunk) ++ after) (take written to) more encoded n room left_room last
            (decided_call big (pending ++ chunk) after (take written to) encoded room NoSpace (inr refl) first)
            (subst (λ b. IsCall (from_wtf8 big) b more n left_room last) (sym (drop-append-le encoded (pending ++ chunk) after first.within)) call)

-- ---- calls one after another

-- the calls so far did the beginning of what one call does that is given all bytes
record Goes (big : Bool) (bytes rest out : List ℕ) : Type 0 where
  at : ℕ
  within : at ≤ length bytes
  is : rest ≡ drop at bytes
  joins : (more : List ℕ) (n room : ℕ) (stop : Stop) → IsCall (from_wtf8 big) rest more n room stop → IsCall (from_wtf8 big) bytes (out ++ more) (at + n) room stop

goes_none : (big : Bool) (bytes : List ℕ) → Goes big bytes bytes []
goes_none big bytes = record {
  at = 0;
  within = omega arith;
  is = refl;
  joins = λ more n room stop call. subst (λ k. IsCall (from_wtf8 big) bytes more k room stop) (omega arith) call;
}

-- one call more
module _ (big : Bool) (all pending bytes out : List ℕ) (goes : Goes big all (pending ++ bytes) out) (feed : Feed) (is : IsWtf8Feed big pending bytes feed) where
  abbrev chunk : List ℕ
  chunk = take feed.offered bytes

  abbrev after : List ℕ
  after = drop feed.offered bytes

  abbrev here : ℕ
  here = encoded_len pending feed.pending feed.read

  whole : (pending ++ chunk) ++ after ≡ pending ++ bytes
  whole = append_assoc pending chunk after ∙ ap (λ b. pending ++ b) (take-append-drop feed.offered bytes)

  rest : feed.pending ++ drop feed.read bytes ≡ drop here (pending ++ chunk) ++ after
  rest =
      ap (λ b. feed.pending ++ drop feed.read b) (sym (take-append-drop feed.offered bytes))
      ∙ left_after big pending chunk feed.pending feed.to feed.read feed.written is.0 after

  within : here ≤ length (pending ++ chunk)
  within = (Writes-fed big pending chunk feed.pending feed.to feed.read feed.written is.0).within

  rest_is : feed.pending ++ drop feed.read bytes ≡ drop (goes.at + here) all
  rest_is =
      rest ∙ sym (drop-append-le here (pending ++ chunk) after within) ∙ ap (drop here) (whole ∙ goes.is) ∙ drop-drop here goes.at all

  both_within : goes.at + here ≤ length all
  both_within =
      let size = ap length (sym whole) ∙ length-append (pending ++ chunk) after in
      omega (arith, within, size, ap length goes.is, length-drop goes.at all, goes.within)

  goes_on : ((len : ℕ) → feed.stop ≢ IllFormed len) → Goes big all (feed.pending ++ drop feed.read bytes) (out ++ feed_output feed)
  goes_on none = record {
    at = goes.at + here;
    within = both_within;
    is = rest_is;
    joins = λ more n room stop call.
        let next = continues big pending chunk feed.pending feed.to feed.read feed.written is.0 after more n (length feed.to - feed.written) room feed.stop stop none is.1
        (subst (λ b. IsCall (from_wtf8 big) (feed.pending ++ drop feed.read b) more n room stop) (sym (take-append-drop feed.offered bytes)) call) in
        let joined = goes.joins (feed_output feed ++ more) (here + n) room stop (subst (λ b. IsCall (from_wtf8 big) b (feed_output feed ++ more) (here + n) room stop) whole next) in
        subst (λ k. IsCall (from_wtf8 big) all ((out ++ feed_output feed) ++ more) k room stop) (omega arith)
        (subst (λ t. IsCall (from_wtf8 big) all t (goes.at + (here + n)) room stop) (sym (append_assoc out (feed_output feed) more)) joined);
  }

  -- an ill-formed sequence
  found : (len : ℕ) → feed.stop ≡ IllFormed len
      → (n : ℕ) × IsCall (from_wtf8 big) all (out ++ feed_output feed) n (length feed.to - feed.written) feed.stop × (feed.pending ++ drop feed.read bytes ≡ drop n all)
  found len fault =
      let room = length feed.to - feed.written in
      let why = subst (StopsFeedingWtf8 big pending chunk feed.pending feed.read room) fault is.1 in
      let call = decided_call big (pending ++ chunk) after (feed_output feed) here room (IllFormed len) (inl (len, refl))
      (as_call big pending chunk feed.pending feed.to feed.read feed.written is.0 room (IllFormed len) why.1) in (
        goes.at + here,
        subst (λ s. IsCall (from_wtf8 big) all (out ++ feed_output feed) (goes.at + here) room s) (sym fault)
            (goes.joins (feed_output feed) here room (IllFormed len) (subst (λ b. IsCall (from_wtf8 big) b (feed_output feed) here room (IllFormed len)) whole call)),
        rest_is,
      )

fed_goes : (big : Bool) (all pending bytes out : List ℕ) (feeds : List Feed) (last left : List ℕ) → Goes big all (pending ++ bytes) out
    → Feeding (GoesOnWtf8 big) pending bytes feeds last left → Goes big all (last ++ left) (out ++ flat_map feed_output feeds)
fed_goes big all pending bytes out [] last left goes same =
    subst (Goes big all (last ++ left)) (sym (append-nil out)) (subst (λ r. Goes big all r out) (ap₂ (λ p b. p ++ b) (sym same.0) (sym same.1)) goes)
fed_goes big all pending bytes out (feed ∷ feeds) last left goes steps =
    subst (Goes big all (last ++ left)) (append_assoc out (feed_output feed) (flat_map feed_output feeds))
    (fed_goes big all feed.pending (drop feed.read bytes) (out ++ feed_output feed) feeds last left (goes_on big all pending bytes out goes feed steps.0.0 steps.0.1) steps.1)

-- all calls of a stream, and its end
pub stream_end : (big : Bool) (bytes : List ℕ) (feeds : List Feed) (last : Feed) (out : List ℕ) (n left : ℕ) (stop : Stop) → FeedsAll (GoesOnWtf8 big) bytes feeds last
    → IsCall (from_wtf8 big) last.pending out n left stop
    → IsCall (from_wtf8 big) bytes ((flat_map feed_output feeds ++ feed_output last) ++ out) (length bytes - length last.pending + n) left stop
stream_end big bytes feeds last out n left stop run call =
    let before = fed_goes big bytes [] bytes [] feeds run.pending run.left (goes_none big bytes) run.before in
    let goes = goes_on big bytes run.pending run.left (flat_map feed_output feeds) before last run.fed.0 run.fed.1 in
    let none : last.pending ++ drop last.read run.left ≡ last.pending =
    ap (λ b. last.pending ++ b) (drop_all last.read run.left (omega (arith, run.all))) ∙ append-nil last.pending in
    let long : goes.at ≡ length bytes - length last.pending = omega (arith, goes.within, ap length (sym none ∙ goes.is), length-drop goes.at bytes) in
    subst (λ k. IsCall (from_wtf8 big) bytes ((flat_map feed_output feeds ++ feed_output last) ++ out) (k + n) left stop) long
    (goes.joins out n left stop (subst (λ b. IsCall (from_wtf8 big) b out n left stop) (sym none) call))

-- all calls up to an ill-formed sequence
pub stream_fault : (big : Bool) (bytes : List ℕ) (feeds : List Feed) (last : Feed) (pending left : List ℕ) (len : ℕ) → Feeding (GoesOnWtf8 big) [] bytes feeds pending left
    → IsWtf8Feed big pending left last → last.stop ≡ IllFormed len
    → (n : ℕ) × IsCall (from_wtf8 big) bytes (flat_map feed_output feeds ++ feed_output last) n (length last.to - last.written) last.stop
    × (last.pending ++ drop last.read left ≡ drop n bytes)
stream_fault big bytes feeds last pending left len steps is fault =
    found big bytes pending left (flat_map feed_output feeds) (fed_goes big bytes [] bytes [] feeds pending left (goes_none big bytes) steps) last is len fault

-- ---- the loop over the calls for one chunk

-- the calls so far did what one call does, or there is none
pub record SoFar (big : Bool) (input rest old new : List ℕ) : Type 0 where
  pub out : List ℕ
  pub at : ℕ
  pub before : Before (from_wtf8_partial big) input out at
  pub is : rest ≡ drop at input
  pub appended : new ≡ old ++ out

pub so_far_none : (big : Bool) (input old : List ℕ) → SoFar big input input old old
so_far_none big input old = record { out = []; at = 0; before = inl (refl, refl); is = refl; appended = sym (append-nil old) }

module _ (big : Bool) (input pending chunk old all next left to : List ℕ) (read written : ℕ) (so_far : SoFar big input (pending ++ chunk) old all)
    (fed : FeedsWtf8 big pending chunk left to read written) (grown : next ≡ all ++ take written to) where
  abbrev now : ℕ
  now = encoded_len pending left read

  together : (room : ℕ) (stop : Stop) → StopsFromWtf8Partial big (pending ++ chunk) now room stop
      → IsCall (from_wtf8_partial big) input (so_far.out ++ take written to) (so_far.at + now) room stop
  together room stop here =
      then_call (from_wtf8_partial big) (from_wtf8_partial_joined big) input so_far.out (take written to) so_far.at now room stop so_far.before
      (subst (λ b. IsCall (from_wtf8_partial big) b (take written to) now room stop) so_far.is (as_call big pending chunk left to read written fed room stop here))

  appended : next ≡ old ++ (so_far.out ++ take written to)
  appended = grown ∙ ap (λ a. a ++ take written to) so_far.appended ∙ append_assoc old so_far.out (take written to)

  left_is : left ++ drop read chunk ≡ drop (so_far.at + now) input
  left_is = rest-fed big pending chunk left to read written fed ∙ ap (drop now) so_far.is ∙ drop-drop now so_far.at input

  pub so_far_more : (room : ℕ) (stop : Stop) → stop ≡ NoSpace → StopsFeedingWtf8 big pending chunk left read room stop → SoFar big input (left ++ rest_from chunk read) old next
  so_far_more room stop full here =
      let why = subst (StopsFeedingWtf8 big pending chunk left read room) full here in
      record {
        out = so_far.out ++ take written to;
        at = so_far.at + now;
        before = stopped (from_wtf8_partial big) input (so_far.out ++ take written to) (so_far.at + now) room NoSpace refl (together room NoSpace why.1);
        is = ap (λ r. left ++ r) (take_rest chunk read) ∙ left_is;
        appended = appended;
      }

  -- with a buffer of four bytes or more fewer are left
  pub so_far_smaller : 4 ≤ length to → length to < written + 4 → length (left ++ rest_from chunk read) < length (pending ++ chunk)
  so_far_smaller room full =
      let wrote = Writes-fed big pending chunk left to read written fed in
      ⊎_elim
      (λ (none : now < 1).
      let zero : now ≡ 0 = omega (arith, none) in
      let nothing = from_wtf8_nothing big (pending ++ chunk) (take written to) (subst (λ k. TranscodesFromWtf8 big (take k (pending ++ chunk)) (take written to)) zero wrote.gives) in
      absurd (omega (arith, room, full, ap length nothing, length-take-le written to fed.fits)))
      (λ (some : 1 ≤ now).
      let rest = ap (λ r. left ++ r) (take_rest chunk read) ∙ rest-fed big pending chunk left to read written fed in
      omega (arith, some, wrote.within, ap length rest, length-drop now (pending ++ chunk)))
      (cases_lt now 1)

  -- all of the chunk was taken, or an ill-formed sequence was found
  pub takes : (room : ℕ) (stop : Stop) → stop ≢ NoSpace → StopsFeedingWtf8 big pending chunk left read room stop → (first after : List ℕ) → input ≡ first ++ after
      → TakesWtf8 big first after left old next stop
  takes room stop other here first after same = why stop other here where
    this : (stop last : Stop) → StopsFromWtf8Partial big (pending ++ chunk) now room last
        → ((stop ≡ Done) × ((last ≡ Done) ⊎ (last ≡ Incomplete)) × (left ≡ drop (so_far.at + now) (first ++ after))) ⊎ ((len : ℕ) × (stop ≡ IllFormed len) × (last ≡ IllFormed len))
        → TakesWtf8 big first after left old next stop
    this stop last here ends = record {
      out = so_far.out ++ take written to;
      read = so_far.at + now;
      room = room;
      last = last;
      call = subst (λ b. IsCall (from_wtf8_partial big) b (so_far.out ++ take written to) (so_far.at + now) room last) same (together room last here);
      appended = appended;
      ends = ends;
    }

    rest : read ≡ length chunk → left ≡ drop (so_far.at + now) (first ++ after)
    rest all =
        sym (append-nil left) ∙ ap (λ b. left ++ b) (sym (drop_all read chunk (omega (arith, all)))) ∙ left_is ∙ ap (drop (so_far.at + now)) same

    why : (stop : Stop) → stop ≢ NoSpace → StopsFeedingWtf8 big pending chunk left read room stop → TakesWtf8 big first after left old next stop
    why Done other here = ⊎_elim
        (λ (done : StopsFromWtf8Partial big (pending ++ chunk) now room Done). this Done Done done (inl (refl, inl refl, rest here.0)))
        (λ (cut : StopsFromWtf8Partial big (pending ++ chunk) now room Incomplete). this Done Incomplete cut (inl (refl, inr refl, rest here.0)))
        here.1
    why (IllFormed len) other here = this (IllFormed len) (IllFormed len) here.1 (inr (len, refl, refl))
    why Incomplete other here = absurd here
    why NoSpace other here = absurd (other refl)

-- ---- the loop over the chunks

module _ (big : Bool) (joined all pending chunk left next input : List ℕ) (stop : Stop) (kept : Kept big joined all pending) (takes : TakesWtf8 big pending chunk left all next stop)
    (more : input ≡ joined ++ chunk) where
  stepped : IsCall (from_wtf8_partial big) input next (kept.at + takes.read) takes.room takes.last × (drop takes.read (pending ++ chunk) ≡ drop (kept.at + takes.read) input)
  stepped = chunk_step big joined all pending takes.out (pending ++ chunk) input next (drop takes.read (pending ++ chunk)) kept takes.read takes.room takes.last takes.appended refl chunk refl more takes.call

  pub chunk_taken : stop ≡ Done → Kept big input next left
  chunk_taken done = ⊎_elim
      (λ (all_taken : (stop ≡ Done) × ((takes.last ≡ Done) ⊎ (takes.last ≡ Incomplete)) × (left ≡ drop takes.read (pending ++ chunk))). record {
        at = kept.at + takes.read;
        left = takes.room;
        stop = takes.last;
        call = stepped.0;
        certain = all_taken.1;
        rest = all_taken.2 ∙ stepped.1;
      })
      (λ (found : (len : ℕ) × (stop ≡ IllFormed len) × (takes.last ≡ IllFormed len)). let bad : Done ≡ IllFormed found.0 = sym done ∙ found.1 in absurd (cc))
      takes.ends

  pub chunk_found : stop ≢ Done → (after whole : List ℕ) → whole ≡ input ++ after → (n : ℕ) × Completes (from_wtf8 big) whole next n stop
  chunk_found other after whole same = ⊎_elim
      (λ (all_taken : (stop ≡ Done) × ((takes.last ≡ Done) ⊎ (takes.last ≡ Incomplete)) × (left ≡ drop takes.read (pending ++ chunk))). absurd (other all_taken.0))
      (λ (found : (len : ℕ) × (stop ≡ IllFormed len) × (takes.last ≡ IllFormed len)). (
        kept.at + takes.read,
        record {
          left = takes.room;
          call =
              subst (λ b. IsCall (from_wtf8 big) b next (kept.at + takes.read) takes.room stop) (sym same)
              (decided_call big input after next (kept.at + takes.read) takes.room stop (inl (found.0, found.1))
              (subst (λ s. IsCall (from_wtf8_partial big) input next (kept.at + takes.read) takes.room s) (found.2 ∙ sym found.1) stepped.0));
          ends = λ full. let bad : IllFormed found.0 ≡ NoSpace = sym found.1 ∙ full in absurd (cc);
        },
      ))
      takes.ends
