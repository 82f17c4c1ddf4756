-- A chunk of a stream of WTF-8: the bytes at its boundary, and what is pending after it.
use Rattle.std.proofs.Common.{◌≡◌, ◌⊎◌, inl, inr, ℕ, ◌+◌, ◌-◌, ◌<◌, ◌≤◌, Bool, false, List, [], ◌++◌, None, length, take, drop, refl, sym, ap, ap₂, ◌∙◌, subst, ⊎_elim, arith, append_assoc, append-nil, length-append, length-drop, length-take, take-append-drop, take_all, take_at}
use borrow.Rule.Slice.PartMut.{put_mid}
use Rattle.std.proofs.lemmas.List.{drop-append-le, drop_all, drop_at}
use Rattle.utf16_units.proofs.IllFormedLemmas.{rest_from}
use Rattle.utf16_transcode.specs.Transcoded.{Writes}
use Rattle.utf16_transcode.specs.declared.progress.Stop.{Stop}
use Rattle.utf16_transcode.specs.declared.progress.Stop.TheVariants.{Incomplete, Done, IllFormed, NoSpace}
use Rattle.utf16_transcode.proofs.StreamSteps.{join_drop, piece_joined}
use Rattle.utf16_wtf8.specs.FromWtf8.{EndsLeading, IsIllFormedWtf8, LeavesLeading, StopsFromWtf8Partial, TranscodesFromWtf8}
use Rattle.utf16_wtf8.specs.Stream.{FeedsWtf8, StopsFeedingWtf8, encoded_len}
use Rattle.utf16_wtf8.specs.Wtf8.{SpellsWtf8, generalized_utf8}
use Rattle.utf16_wtf8.proofs.FewLemmas.{few_left}
use Rattle.utf16_wtf8.proofs.LongerLemmas.{IsDecided, Writes-longer, not_cut, not_done, stops_longer}
use Rattle.utf16_wtf8.proofs.SeamLemmas.{IsSeam, Writes-behind, fits_behind, stops_behind}

-- if they are fewer, they are all
pub all_joined : (bytes window : List ℕ) → window ≡ take 12 bytes → length window < 12 → window ≡ bytes
all_joined bytes window is few = is ∙ take_all 12 bytes (omega (arith, few, ap length is, length-take 12 bytes))

pub window_joined : (bytes window : List ℕ) → window ≡ take 12 bytes → window ++ drop 12 bytes ≡ bytes
window_joined bytes window is = ap (λ w. w ++ drop 12 bytes) is ∙ take-append-drop 12 bytes

-- what a call for a window that holds not all bytes did, it did for all bytes, unless it read all
module _ (big : Bool) (pending chunk window : List ℕ) (is : window ≡ take 12 (pending ++ chunk)) where
  pub Writes-window : (to : List ℕ) (read written : ℕ) → Writes (TranscodesFromWtf8 big) window to read written
      → Writes (TranscodesFromWtf8 big) (pending ++ chunk) to read written
  Writes-window to read written wrote =
      subst (λ b. Writes (TranscodesFromWtf8 big) b to read written) (window_joined (pending ++ chunk) window is)
      (Writes-longer big window (drop 12 (pending ++ chunk)) to read written wrote)

  pub stops_window : (read room : ℕ) (stop : Stop) → IsDecided stop → StopsFromWtf8Partial big window read room stop
      → StopsFromWtf8Partial big (pending ++ chunk) read room stop
  stops_window read room stop decided here =
      subst (λ b. StopsFromWtf8Partial big b read room stop) (window_joined (pending ++ chunk) window is)
      (stops_longer big window (drop 12 (pending ++ chunk)) read room stop decided here)

-- if the window is shorter, what is stated of it is stated of all bytes
module _ (big : Bool) (bytes window : List ℕ) (is : window ≡ take 12 bytes) (few : length window < 12) where
  pub stops_all : (read room : ℕ) (stop : Stop) → StopsFromWtf8Partial big window read room stop → StopsFromWtf8Partial big bytes read room stop
  stops_all read room stop here = subst (λ b. StopsFromWtf8Partial big b read room stop) (all_joined bytes window is few) here

  pub leaves_all : (read : ℕ) → LeavesLeading bytes read → LeavesLeading window read
  leaves_all read leaves = subst (λ b. LeavesLeading b read) (sym (all_joined bytes window is few)) leaves

-- the rest of the chunk, after all pending bytes
pub behind_pending : (pending chunk : List ℕ) (read : ℕ) → length pending ≤ read → rest_from chunk (read - length pending) ≡ drop read (pending ++ chunk)
behind_pending pending chunk read past = sym (append-nil (rest_from chunk (read - length pending))) ∙ piece_joined pending chunk read past

-- where a call stopped at the end of a window
module _ (big : Bool) (window : List ℕ) (read room : ℕ) where
  pub many_read : (stop : Stop) → (stop ≡ Done) ⊎ (stop ≡ Incomplete) → StopsFromWtf8Partial big window read room stop → length window ≤ read + 6
  many_read stop (inl done) here = let all = subst (StopsFromWtf8Partial big window read room) done here in omega (arith, all.0)
  many_read stop (inr cut) here = few_left big window read room stop cut here

  pub seam_here : (points back : List ℕ) → read ≤ length window → SpellsWtf8 points (take read window) → (stop : Stop) → (stop ≡ Done) ⊎ (stop ≡ Incomplete)
      → StopsFromWtf8Partial big window read room stop → IsSeam points (drop read (window ++ back))
  seam_here points back within spells stop (inl done) here = let all = subst (StopsFromWtf8Partial big window read room) done here in inl (all.1 points spells)
  seam_here points back within spells stop (inr cut) here = ⊎_elim
      (λ (ends : IsIllFormedWtf8 window read None × EndsLeading (take read window) false). inl (ends.1 points spells))
      (λ (leaves : LeavesLeading window read).
      let rest = drop read window in
      inr record {
        lead = leaves.lead;
        more = drop 3 rest ++ back;
        leading = leaves.leading;
        begins =
            drop-append-le read window back within
            ∙ ap (λ b. b ++ back) (sym (take-append-drop 3 rest) ∙ ap (λ b. b ++ drop 3 rest) leaves.begins)
            ∙ append_assoc (generalized_utf8 leaves.lead) (drop 3 rest) back;
      })
      (subst (StopsFromWtf8Partial big window read room) cut here)

-- a first call for a window read it to its end, and so all pending bytes
pub record ReadStart (big : Bool) (pending chunk to : List ℕ) (read at : ℕ) : Type 0 where
  pub window : List ℕ
  pub stop : Stop
  pub is : window ≡ take 12 (pending ++ chunk)
  pub wrote : Writes (TranscodesFromWtf8 big) window to read at
  pub ended : (stop ≡ Done) ⊎ (stop ≡ Incomplete)
  pub here : StopsFromWtf8Partial big window read (length to - at) stop
  pub past : length pending ≤ read

pub read_start : (big : Bool) (pending chunk to : List ℕ) (read at : ℕ) (window : List ℕ) (stop : Stop) → window ≡ take 12 (pending ++ chunk)
    → Writes (TranscodesFromWtf8 big) window to read at → (stop ≡ Done) ⊎ (stop ≡ Incomplete) → StopsFromWtf8Partial big window read (length to - at) stop
    → length pending ≤ 6 → 12 ≤ length window → ReadStart big pending chunk to read at
read_start big pending chunk to read at window stop is wrote ended here few full = record {
  window = window;
  stop = stop;
  is = is;
  wrote = wrote;
  ended = ended;
  here = here;
  past = omega (arith, few, full, many_read big window read (length to - at) stop ended here);
}

pub start_within : (big : Bool) (pending chunk to : List ℕ) (read at : ℕ) → ReadStart big pending chunk to read at → read - length pending ≤ length chunk
start_within big pending chunk to read at start =
    omega (arith, start.wrote.within, ap length (window_joined (pending ++ chunk) start.window start.is), length-append start.window (drop 12 (pending ++ chunk)), length-append pending chunk)

-- a second call for the rest of the chunk, after all pending bytes
module _ (big : Bool) (pending chunk to part : List ℕ) (read at n w : ℕ) (start : ReadStart big pending chunk to read at)
    (rest : Writes (TranscodesFromWtf8 big) (rest_from chunk (read - length pending)) part n w) (long : length part ≡ length to - at) where
  abbrev window : List ℕ
  window = start.window

  abbrev back : List ℕ
  back = drop 12 (pending ++ chunk)

  abbrev new : List ℕ
  new = put_mid at (length to - at) to part

  all : window ++ back ≡ pending ++ chunk
  all = window_joined (pending ++ chunk) window start.is

  behind : rest_from chunk (read - length pending) ≡ drop read (window ++ back)
  behind = behind_pending pending chunk read start.past ∙ ap (drop read) (sym all)

  abbrev before : Writes (TranscodesFromWtf8 big) (window ++ back) to read at
  before = Writes-longer big window back to read at start.wrote

  seam : IsSeam before.gives.points (drop read (window ++ back))
  seam = seam_here big window read (length to - at) start.wrote.gives.points back start.wrote.within start.wrote.gives.spells start.stop start.ended start.here

  after : Writes (TranscodesFromWtf8 big) (drop read (window ++ back)) part n w
  after = subst (λ b. Writes (TranscodesFromWtf8 big) b part n w) behind rest

  pub Writes-joined : Writes (TranscodesFromWtf8 big) (pending ++ chunk) new (read + n) (at + w)
  Writes-joined =
      subst (λ b. Writes (TranscodesFromWtf8 big) b new (read + n) (at + w)) all
      (Writes-behind big (window ++ back) to part read at n w before seam after long)

  pub stops_joined : (next : Stop) → StopsFromWtf8Partial big (rest_from chunk (read - length pending)) n (length part - w) next
      → StopsFromWtf8Partial big (pending ++ chunk) (read + n) (length new - (at + w)) next
  stops_joined next why =
      subst (λ b. StopsFromWtf8Partial big b (read + n) (length new - (at + w)) next) all
      (stops_behind big (window ++ back) to part read at n w before seam after long next
      (subst (λ b. StopsFromWtf8Partial big b n (length part - w) next) behind why))

  pub fits_joined : (LeavesLeading (rest_from chunk (read - length pending)) n → 2 ≤ length part - w) → LeavesLeading (pending ++ chunk) (read + n)
      → 2 ≤ length new - (at + w)
  fits_joined fits leaves =
      fits_behind big (window ++ back) to part read at n w before seam after long
      (λ l. fits (subst (λ b. LeavesLeading b n) (sym behind) l)) (subst (λ b. LeavesLeading b (read + n)) (sym all) leaves)

-- ---- what a stream holds

module _ (pending chunk : List ℕ) (at : ℕ) (within : at ≤ length (pending ++ chunk)) where
  both : length (pending ++ chunk) ≡ length pending + length chunk
  both = length-append pending chunk

  pub joined_within : at ≤ length pending + length chunk
  joined_within = omega (arith, both, within)

  -- only the encoded bytes were taken
  module _ (left : List ℕ) (read : ℕ) (left_is : left ≡ drop at pending) (is : read ≡ length chunk - length (drop (at - length pending) chunk)) where
    read_is : read ≡ at - length pending
    read_is = omega (arith, is, length-drop (at - length pending) chunk, both, within)

    pub rest_full : left ++ drop read chunk ≡ drop at (pending ++ chunk)
    rest_full = ap₂ (λ h k. h ++ drop k chunk) left_is read_is ∙ join_drop pending chunk at

    pub len_full : encoded_len pending left read ≡ at
    len_full = omega (arith, read_is, ap length left_is, length-drop at pending)

    pub either_full : (read ≡ 0) ⊎ (left ≡ [])
    either_full = grind (arith, read_is, drop_all)

    pub read_full : read ≤ length chunk
    read_full = omega (arith, is)

    pub stops_full : (big : Bool) (room : ℕ) (stop : Stop) → IsDecided stop → StopsFromWtf8Partial big (pending ++ chunk) at room stop
        → StopsFeedingWtf8 big pending chunk left read room stop
    stops_full big room Done decided here = absurd (not_done Done decided refl)
    stops_full big room Incomplete decided here = absurd (not_cut Incomplete decided refl)
    stops_full big room (IllFormed len) decided here =
        (either_full, subst (λ k. StopsFromWtf8Partial big (pending ++ chunk) k room (IllFormed len)) (sym len_full) here)
    stops_full big room NoSpace decided here =
        (either_full, subst (λ k. StopsFromWtf8Partial big (pending ++ chunk) k room NoSpace) (sym len_full) here)

  -- all was taken
  module _ (left : List ℕ) (left_is : left ≡ drop at (pending ++ chunk)) where
    pub rest_done : left ++ drop (length chunk) chunk ≡ drop at (pending ++ chunk)
    rest_done = ap (λ b. left ++ b) (drop_all (length chunk) chunk (omega arith)) ∙ append-nil left ∙ left_is

    pub len_done : encoded_len pending left (length chunk) ≡ at
    len_done = omega (arith, ap length left_is, length-drop at (pending ++ chunk), both, within)

    pub stops_done : (big : Bool) (room : ℕ) (stop : Stop) → (stop ≡ Done) ⊎ (stop ≡ Incomplete) → StopsFromWtf8Partial big (pending ++ chunk) at room stop
        → StopsFeedingWtf8 big pending chunk left (length chunk) room Done
    stops_done big room stop (inl done) here =
        (refl, inl (subst (λ k. StopsFromWtf8Partial big (pending ++ chunk) k room Done) (sym len_done) (subst (StopsFromWtf8Partial big (pending ++ chunk) at room) done here)))
    stops_done big room stop (inr cut) here =
        (refl, inr (subst (λ k. StopsFromWtf8Partial big (pending ++ chunk) k room Incomplete) (sym len_done) (subst (StopsFromWtf8Partial big (pending ++ chunk) at room) cut here)))

    pub fits_done : (big : Bool) (room : ℕ) (stop : Stop) → (stop ≡ Done) ⊎ (stop ≡ Incomplete) → StopsFromWtf8Partial big (pending ++ chunk) at room stop
        → (stop ≡ Incomplete → LeavesLeading (pending ++ chunk) at → 2 ≤ room)
        → LeavesLeading (pending ++ chunk) (encoded_len pending left (length chunk)) → 2 ≤ room
    fits_done big room stop (inl done) here fits leaves =
        let all = subst (StopsFromWtf8Partial big (pending ++ chunk) at room) done here in
        let l = subst (LeavesLeading (pending ++ chunk)) len_done leaves in
        absurd (omega (arith, all.0, l.within))
    fits_done big room stop (inr cut) here fits leaves = fits cut (subst (LeavesLeading (pending ++ chunk)) len_done leaves)

-- what is pending if all was taken
pub tail_joined : (pending chunk left rest held : List ℕ) (at : ℕ) → left ≡ drop at pending → rest ≡ drop (at - length pending) chunk → held ≡ take 12 (left ++ rest)
    → length (pending ++ chunk) ≤ at + 6 → held ≡ drop at (pending ++ chunk)
tail_joined pending chunk left rest held at left_is rest_is is few =
    let both = ap₂ (λ h b. h ++ b) left_is rest_is ∙ join_drop pending chunk at in
    is ∙ take_all 12 (left ++ rest) (omega (arith, few, ap length both, length-drop at (pending ++ chunk))) ∙ both

pub tail_few : (bytes held : List ℕ) (at : ℕ) → held ≡ drop at bytes → length bytes ≤ at + 6 → length held ≤ 6
tail_few bytes held at is few = omega (arith, ap length is, length-drop at bytes, few)

pub Feeds-wrote : (big : Bool) (pending chunk left to : List ℕ) (at read written : ℕ) → Writes (TranscodesFromWtf8 big) (pending ++ chunk) to at written
    → read ≤ length chunk → left ++ drop read chunk ≡ drop at (pending ++ chunk) → FeedsWtf8 big pending chunk left to read written
Feeds-wrote big pending chunk left to at read written wrote within rest = record {
  within = within;
  fits = wrote.fits;
  front = take at (pending ++ chunk);
  splits = sym (take-append-drop at (pending ++ chunk)) ∙ ap (λ b. take at (pending ++ chunk) ++ b) (sym rest);
  gives = wrote.gives;
}

-- and the other way: what a call did with the pending bytes and the chunk together
module _ (big : Bool) (pending chunk left to : List ℕ) (read written : ℕ) (fed : FeedsWtf8 big pending chunk left to read written) where
  abbrev encoded : ℕ
  encoded = encoded_len pending left read

  long : length fed.front ≡ encoded
  long =
      let within = fed.within in
      omega (
        arith,
        ap length fed.splits,
        length-append pending chunk,
        length-append fed.front (left ++ drop read chunk),
        length-append left (drop read chunk),
        length-drop read chunk,
      )

  pub Writes-fed : Writes (TranscodesFromWtf8 big) (pending ++ chunk) to encoded written
  Writes-fed = record {
    within = omega (arith, ap length fed.splits, long, length-append fed.front (left ++ drop read chunk));
    fits = fed.fits;
    gives = subst (λ b. TranscodesFromWtf8 big b (take written to)) (sym (ap (take encoded) fed.splits ∙ take_at fed.front (left ++ drop read chunk) encoded long)) fed.gives;
  }

  -- what is left
  pub rest-fed : left ++ drop read chunk ≡ drop encoded (pending ++ chunk)
  rest-fed = sym (ap (drop encoded) fed.splits ∙ drop_at fed.front (left ++ drop read chunk) encoded long)
