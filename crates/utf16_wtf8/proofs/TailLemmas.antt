-- What a call leaves pending of a stream of WTF-8: at most one leading surrogate, and the beginning
-- of a code point.
use Rattle.std.proofs.Common.{◌≡◌, ◌≢◌, ◌⊎◌, inl, inr, ℕ, ◌+◌, ◌-◌, ◌*◌, ◌<◌, ◌≤◌, Bool, false, List, [], ◌∷◌, ◌++◌, All, None, Some, flat_map, length, take, drop, refl, sym, ap, ap₂, ◌∙◌, subst, ⊎_elim, arith, append_assoc, append-nil, length-append, length-drop, length-take-le, take-append-drop, take_at}
use Rattle.std.proofs.lemmas.Bool.{cases_lt}
use Rattle.std.proofs.lemmas.List.{drop-drop, drop_all, drop_at, take-append-le}
use Rattle.std.proofs.lemmas.List.Concat.{flat_map-append}
use Rattle.std.proofs.lemmas.List.Elements.{All-append, All-cons, All-head, All-nil, All-tail}
use Rattle.utf16_units.specs.Encoding.{char_bytes, size}
use Rattle.utf16_units.specs.Unit.{IsLeading}
use Rattle.utf16_units.proofs.CharLemmas.{char_size-le, char_size_cases, char_size_two, length-char_bytes}
use Rattle.utf16_units.proofs.EncodingLemmas.{size-append, size-cons, size-nil}
use Rattle.utf16_transcode.specs.Transcoded.{Writes}
use Rattle.utf16_transcode.specs.declared.progress.Stop.{Stop}
use Rattle.utf16_transcode.specs.declared.progress.Stop.TheVariants.{Incomplete, Done, IllFormed, NoSpace}
use Rattle.utf16_wtf8.specs.FromWtf8.{EndsLeading, IsIllFormedWtf8, LeavesLeading, NextPointDoesNotFit, StopsFromWtf8, StopsFromWtf8Partial, TranscodesFromWtf8, wtf8_error_len}
use Rattle.utf16_wtf8.specs.Laws.{IsTruncated}
use Rattle.utf16_wtf8.specs.Stream.{IsWtf8Tail, end_stop}
use Rattle.utf16_wtf8.specs.Wtf8.{IsCodePoint, IsWtf8, generalized_utf8}
use Rattle.utf16_wtf8.proofs.CodeLemmas.{point-unique, some_bytes, spelled}
use Rattle.utf16_wtf8.proofs.FromLenLemmas.{length-units, size-le}
use Rattle.utf16_wtf8.proofs.LongerLemmas.{error_longer, len_is_few, none_continues}
use Rattle.utf16_wtf8.proofs.MaximalLemmas.{none_if_truncated, pair_has_three}

-- ---- the space that any bytes need

module _ (big : Bool) (wtf8 to : List ℕ) (read written : ℕ) (wrote : Writes (TranscodesFromWtf8 big) wtf8 to read written) where
  pub next_fits : NextPointDoesNotFit big wtf8 read (length to - written) → length to < 2 * length wtf8
  next_fits next =
      let gives = wrote.gives in
      let units = ap length gives.units ∙ length-units big gives.points in
      let bytes = ap length gives.spells.spelled in
      let most = size-le gives.points in
      let first = length-take-le written to wrote.fits in
      let front = length-take-le read wtf8 wrote.within in
      let rest = ap length next.begins ∙ length-append (generalized_utf8 next.point) next.more in
      let left = length-drop read wtf8 in
      omega (arith, next.too_long, length-char_bytes big next.point, char_size-le next.point)

  pub next_filled : NextPointDoesNotFit big wtf8 read (length to - written) → length to < written + 4
  next_filled next = omega (arith, next.too_long, wrote.fits, length-char_bytes big next.point, char_size_cases next.point)

-- ---- the beginning of a code point

nothing_left : (front back : List ℕ) → front ++ back ≡ [] → back ≡ []
nothing_left [] back none = none
nothing_left (b ∷ front) back none = absurd (cc)

-- every code point that begins like it is longer
longer : (part : List ℕ) → IsTruncated part → (point : ℕ) (back more : List ℕ) → IsCodePoint point → part ++ back ≡ generalized_utf8 point ++ more
    → length part < length (generalized_utf8 point)
longer part cut point back more below e = ⊎_elim
    (λ (short : length part < length (generalized_utf8 point)). short)
    (λ (whole : length (generalized_utf8 point) ≤ length part).
    let k = length (generalized_utf8 point) in
    let front : take k part ≡ generalized_utf8 point = sym (take-append-le k part back whole) ∙ ap (take k) e ∙ take_at (generalized_utf8 point) more k refl in
    let all : generalized_utf8 point ++ (drop k part ++ cut.more) ≡ generalized_utf8 cut.point ++ [] =
    sym (append_assoc (generalized_utf8 point) (drop k part) cut.more) ∙ ap (λ b. (b ++ drop k part) ++ cut.more) (sym front)
    ∙ ap (λ b. b ++ cut.more) (take-append-drop k part) ∙ cut.spelled ∙ sym (append-nil (generalized_utf8 cut.point)) in
    let same = point-unique point cut.point (drop k part ++ cut.more) [] below cut.code_point all in
    absurd (cut.some (nothing_left (drop k part) cut.more same.1)))
    (cases_lt (length part) (length (generalized_utf8 point)))

pub truncated_has_none : (part : List ℕ) → IsTruncated part → wtf8_error_len part ≡ None
truncated_has_none part cut =
    (none_if_truncated part (λ point more below e.
    omega (arith, longer part cut point [] more below (append-nil part ∙ e), ap length e, length-append (generalized_utf8 point) more))).1 cut

truncated_nil : IsTruncated []
truncated_nil = record { point = 0; more = generalized_utf8 0; code_point = omega arith; some = λ none. omega (arith, ap length none, some_bytes 0); spelled = refl }

-- what follows the longest prefix is such a beginning, if it has no length
none_truncated : (bytes : List ℕ) (n : ℕ) → IsIllFormedWtf8 bytes n None → IsTruncated (drop n bytes)
none_truncated bytes n found =
    (none_if_truncated (drop n bytes) (λ point more below e.
    let trail = (none_continues bytes n found.0 point more below e).1 in
    let three : wtf8_error_len (drop n bytes) ≡ Some 3 = ap wtf8_error_len e ∙ pair_has_three point more (omega (arith, trail.0)) (omega (arith, trail.1)) in
    let bad : None ≡ Some 3 = found.1 ∙ three in
    absurd (cc))).0 (sym found.1)

pub tail_nil : IsWtf8Tail []
tail_nil = record { leads = []; leading = All-nil IsLeading; one = omega arith; part = []; truncated = truncated_nil; is = refl }

tail_part : (part : List ℕ) → IsTruncated part → IsWtf8Tail part
tail_part part cut = record { leads = []; leading = All-nil IsLeading; one = omega arith; part = part; truncated = cut; is = refl }

-- ---- code points at the start of pending bytes and a chunk

-- code points after the leading surrogates: none, or they are longer than the beginning of a code
-- point
behind : (part chunk points others : List ℕ) → IsTruncated part → All IsCodePoint points → spelled points ++ others ≡ part ++ chunk
    → (points ≡ []) ⊎ ((length part < length (spelled points)) × (size points ≤ 2 * length chunk + 2))
behind part chunk [] others cut are e = inl refl
behind part chunk (point ∷ points) others cut are e =
    let first = longer part cut point chunk (spelled points ++ others) (All-head IsCodePoint point points are) (sym e ∙ append_assoc (generalized_utf8 point) (spelled points) others) in
    let long = length-append (generalized_utf8 point) (spelled points) in
    let all = sym (length-append (spelled (point ∷ points)) others) ∙ ap length e ∙ length-append part chunk in
    inr (omega arith, omega (arith, size-cons point points, size-le points, char_size_cases point))

-- what code points at the start are: none, or the leading surrogate and others
starts : (leads back points others : List ℕ) → All IsLeading leads → length leads ≤ 1 → All IsCodePoint points → spelled points ++ others ≡ spelled leads ++ back
    → (points ≡ []) ⊎ ((rest : List ℕ) × (points ≡ leads ++ rest) × All IsCodePoint rest × (spelled rest ++ others ≡ back))
starts [] back points others leading one are e = inr (points, refl, are, e)
starts (lead ∷ []) back [] others leading one are e = inl refl
starts (lead ∷ []) back (point ∷ points) others leading one are e =
    let l = All-head IsLeading lead [] leading in
    let same = point-unique point lead (spelled points ++ others) back (All-head IsCodePoint point points are) (omega (arith, l.1))
    (sym (append_assoc (generalized_utf8 point) (spelled points) others) ∙ e ∙ ap (λ b. b ++ back) (append-nil (generalized_utf8 lead))) in
    inr (points, ap (λ p. p ∷ points) same.0, All-tail IsCodePoint point points are, same.1)
starts (lead ∷ other ∷ leads) back points others leading one are e = absurd (omega arith)

leads_size : (leads : List ℕ) → All IsLeading leads → length leads ≤ 1 → size leads ≤ 2
leads_size [] leading one = omega (arith, size-nil)
leads_size (lead ∷ []) leading one =
    let l = All-head IsLeading lead [] leading in
    omega (arith, size-cons lead [], size-nil, l.1, char_size_two lead (omega (arith, l.1)))
leads_size (lead ∷ other ∷ leads) leading one = absurd (omega arith)

-- if no WTF-8 begins the bytes, no leading surrogate does
none_leads : (leads back bytes : List ℕ) → All IsLeading leads → length leads ≤ 1 → bytes ≡ spelled leads ++ back
    → ((n : ℕ) → 0 < n → n ≤ length bytes → ¬ (IsWtf8 (take n bytes))) → leads ≡ []
none_leads [] back bytes leading one e longest = refl
none_leads (lead ∷ []) back bytes leading one e longest =
    let l = All-head IsLeading lead [] leading in
    let k = length (spelled (lead ∷ [])) in
    let some = some_bytes lead in
    let size = ap length e ∙ length-append (spelled (lead ∷ [])) back in
    let front : take k bytes ≡ spelled (lead ∷ []) = ap (take k) e ∙ take_at (spelled (lead ∷ [])) back k refl in
    absurd (longest k (omega (arith, some, length-append (generalized_utf8 lead) [])) (omega (arith, size)) (record {
      points = lead ∷ [];
      spells = record { each_point = All-cons IsCodePoint lead [] (omega (arith, l.1)) (All-nil IsCodePoint); no_pair = tt; spelled = sym front };
    }))
none_leads (lead ∷ other ∷ leads) back bytes leading one e longest = absurd (omega arith)

-- a call that does not stop for lack of space reads all WTF-8 at the start
all_read : (big : Bool) (bytes : List ℕ) (read room : ℕ) (stop : Stop) → stop ≢ NoSpace → StopsFromWtf8 big bytes read room stop
    → (n : ℕ) → read < n → n ≤ length bytes → ¬ (IsWtf8 (take n bytes))
all_read big bytes read room Done other here n past few is = omega (arith, here)
all_read big bytes read room (IllFormed len) other here n past few is = here.0.longest n past is
all_read big bytes read room Incomplete other here n past few is = here.0.longest n past is
all_read big bytes read room NoSpace other here n past few is = other refl

-- ---- what a call read

module _ (pending chunk bytes : List ℕ) (is : bytes ≡ pending ++ chunk) (tail : IsWtf8Tail pending) (big : Bool) (to : List ℕ) (at written : ℕ)
    (wrote : Writes (TranscodesFromWtf8 big) bytes to at written) where
  abbrev points : List ℕ
  points = wrote.gives.points

  abbrev front : List ℕ
  front = spelled tail.leads

  parts : bytes ≡ front ++ (tail.part ++ chunk)
  parts = is ∙ ap (λ b. b ++ chunk) tail.is ∙ append_assoc front tail.part chunk

  long : length pending ≡ length front + length tail.part
  long = ap length tail.is ∙ length-append front tail.part

  at_is : at ≡ length (spelled points)
  at_is = sym (length-take-le at bytes wrote.within) ∙ ap length (sym wrote.gives.spells.spelled)

  -- nothing, or the leading surrogates, or all pending bytes and more
  ends : (points ≡ []) ⊎ ((points ≡ tail.leads) ⊎ (length pending < at))
  ends = ⊎_elim
      (λ (none : points ≡ []). inl none)
      (λ (some : (rest : List ℕ) × (points ≡ tail.leads ++ rest) × All IsCodePoint rest × (spelled rest ++ drop at bytes ≡ tail.part ++ chunk)). inr (⊎_elim
      (λ (none : some.0 ≡ []). inl (some.1 ∙ ap (λ r. tail.leads ++ r) none ∙ append-nil tail.leads))
      (λ (more : (length tail.part < length (spelled some.0)) × (size some.0 ≤ 2 * length chunk + 2)).
      inr (omega (arith, more.0, long, at_is, ap (λ p. length (spelled p)) some.1, ap length (flat_map-append generalized_utf8 tail.leads some.0), length-append front (spelled some.0))))
      (behind tail.part chunk some.0 (drop at bytes) tail.truncated some.2 some.3)))
      (starts tail.leads (tail.part ++ chunk) points (drop at bytes) tail.leading tail.one wrote.gives.spells.each_point
      (ap (λ b. b ++ drop at bytes) wrote.gives.spells.spelled ∙ take-append-drop at bytes ∙ parts))

  none_read : points ≡ [] → at ≡ 0
  none_read none = at_is ∙ ap (λ p. length (spelled p)) none

  leads_end : points ≡ tail.leads → at ≡ length front
  leads_end only = at_is ∙ ap (λ p. length (spelled p)) only

  leads_read : points ≡ tail.leads → drop at pending ≡ tail.part
  leads_read only = ap (drop at) tail.is ∙ drop_at front tail.part at (sym (leads_end only))

  pub tail_left : IsWtf8Tail (drop at pending)
  tail_left = ⊎_elim
      (λ (none : points ≡ []). subst (λ n. IsWtf8Tail (drop n pending)) (sym (none_read none)) tail)
      (λ (some : (points ≡ tail.leads) ⊎ (length pending < at)). ⊎_elim
      (λ (only : points ≡ tail.leads). subst IsWtf8Tail (sym (leads_read only)) (tail_part tail.part tail.truncated))
      (λ (past : length pending < at). subst IsWtf8Tail (sym (drop_all at pending (omega (arith, past)))) tail_nil)
      some)
      ends

  -- the leading surrogates, if it read all WTF-8 at the start
  leads_only : points ≡ [] → ((n : ℕ) → at < n → n ≤ length bytes → ¬ (IsWtf8 (take n bytes))) → points ≡ tail.leads
  leads_only none longest =
      none ∙ sym (none_leads tail.leads (tail.part ++ chunk) bytes tail.leading tail.one parts (λ n some. longest n (omega (arith, some, none_read none))))

  -- an ill-formed sequence has all bytes that stay pending, and no more than are left
  pub resumes : (left : List ℕ) (read room len : ℕ) (stop : Stop) → left ≡ drop at pending → left ++ drop read chunk ≡ drop at bytes
      → StopsFromWtf8Partial big bytes at room stop → stop ≡ IllFormed len → (length left ≤ len) × (len ≤ length left + (length chunk - read))
  resumes left read room len stop left_is rest here fault = (
    ⊎_elim
        (λ (none : points ≡ []). few (leads_only none (λ n past within. found.0.longest n past)))
        (λ (some : (points ≡ tail.leads) ⊎ (length pending < at)). ⊎_elim
        (λ (only : points ≡ tail.leads). few only)
        (λ (past : length pending < at). omega (arith, past, ap length left_is, length-drop at pending))
        some)
        ends,
    omega (arith, (len_is_few (drop at bytes) len (sym found.1)).2, ap length rest, length-append left (drop read chunk), length-drop read chunk),
  ) where
    found : IsIllFormedWtf8 bytes at (Some len)
    found = subst (StopsFromWtf8Partial big bytes at room) fault here

    few : points ≡ tail.leads → length left ≤ len
    few only =
        let behind : drop at bytes ≡ tail.part ++ chunk = ap (drop at) parts ∙ drop_at front (tail.part ++ chunk) at (sym (leads_end only)) in
        let least = error_longer tail.part chunk len (truncated_has_none tail.part tail.truncated) (ap wtf8_error_len (sym behind) ∙ sym found.1) in
        omega (arith, least, ap length (left_is ∙ leads_read only))

  -- how much space it needs
  pub no_room : NextPointDoesNotFit big bytes at (length to - written) → (length to < 2) ⊎ ((0 < length chunk) × (length to < 2 * length chunk + 4))
  no_room next = ⊎_elim
      (λ (none : all ≡ []). absurd (omega (arith, ap length none, length-append points (next.point ∷ []))))
      (λ (some : (rest : List ℕ) × (all ≡ tail.leads ++ rest) × All IsCodePoint rest × (spelled rest ++ next.more ≡ tail.part ++ chunk)).
      let sizes = ap size some.1 ∙ size-append tail.leads some.0 in
      ⊎_elim
      (λ (none : some.0 ≡ []). inl (omega (arith, needs, sizes, ap size none, size-nil, few)))
      (λ (more : (length tail.part < length (spelled some.0)) × (size some.0 ≤ 2 * length chunk + 2)).
      let lens = sym (length-append (spelled some.0) next.more) ∙ ap length some.3 ∙ length-append tail.part chunk in
      inr (omega (arith, more.0, lens), omega (arith, needs, sizes, more.1, few)))
      (behind tail.part chunk some.0 next.more tail.truncated some.2 some.3))
      (starts tail.leads (tail.part ++ chunk) all next.more tail.leading tail.one (All-append IsCodePoint points (next.point ∷ []) wrote.gives.spells.each_point (All-cons IsCodePoint next.point [] next.code_point (All-nil IsCodePoint))) spells)
    where
      all : List ℕ
      all = points ++ next.point ∷ []

      few : size tail.leads ≤ 2
      few = leads_size tail.leads tail.leading tail.one

      needs : length to < size all
      needs = omega (
        arith,
        next.too_long,
        wrote.fits,
        length-char_bytes big next.point,
        sym (length-take-le written to wrote.fits) ∙ ap length wrote.gives.units ∙ length-units big points,
        size-append points (next.point ∷ []),
        size-cons next.point [],
        size-nil,
      )

      spells : spelled all ++ next.more ≡ front ++ (tail.part ++ chunk)
      spells =
          ap (λ b. b ++ next.more) (flat_map-append generalized_utf8 points (next.point ∷ []) ∙ ap (λ b. spelled points ++ b) (append-nil (generalized_utf8 next.point)))
          ∙ append_assoc (spelled points) (generalized_utf8 next.point) next.more ∙ ap (λ b. spelled points ++ b) (sym next.begins)
          ∙ ap (λ b. b ++ drop at bytes) wrote.gives.spells.spelled ∙ take-append-drop at bytes ∙ parts

-- ---- a chunk

-- what stays pending if all of it was taken
pub tail_done : (big : Bool) (bytes : List ℕ) (at room : ℕ) (stop : Stop) → (stop ≡ Done) ⊎ (stop ≡ Incomplete) → StopsFromWtf8Partial big bytes at room stop → IsWtf8Tail (drop at bytes)
tail_done big bytes at room stop (inl done) here =
    let all = subst (StopsFromWtf8Partial big bytes at room) done here in
    subst IsWtf8Tail (sym (drop_all at bytes (omega (arith, all.0)))) tail_nil
tail_done big bytes at room stop (inr cut) here = ⊎_elim
    (λ (short : IsIllFormedWtf8 bytes at None × EndsLeading (take at bytes) false). tail_part (drop at bytes) (none_truncated bytes at short.0))
    (λ (leaves : LeavesLeading bytes at). record {
      leads = leaves.lead ∷ [];
      leading = All-cons IsLeading leaves.lead [] leaves.leading (All-nil IsLeading);
      one = omega arith;
      part = drop (at + 3) bytes;
      truncated = ⊎_elim
          (λ (end : at + 3 ≡ length bytes). subst IsTruncated (sym (drop_all (at + 3) bytes (omega (arith, end)))) truncated_nil)
          (λ (more : IsIllFormedWtf8 bytes (at + 3) None). none_truncated bytes (at + 3) more)
          leaves.after;
      is =
          sym (take-append-drop 3 (drop at bytes))
          ∙ ap₂ (λ f b. f ++ b) (leaves.begins ∙ sym (append-nil (generalized_utf8 leaves.lead))) (drop-drop 3 at bytes);
    })
    (subst (StopsFromWtf8Partial big bytes at room) cut here)

-- the space that a call needs which stops for lack of it
module _ (pending chunk to : List ℕ) (big : Bool) (at written : ℕ) (wrote : Writes (TranscodesFromWtf8 big) (pending ++ chunk) to at written) (stop : Stop)
    (here : StopsFromWtf8Partial big (pending ++ chunk) at (length to - written) stop) where
  pub succeeds : IsWtf8Tail pending → 2 * length chunk + 4 ≤ length to → stop ≢ NoSpace
  succeeds tail enough full = ⊎_elim
      (λ (few : length to < 2). omega (arith, few, enough))
      (λ (few : (0 < length chunk) × (length to < 2 * length chunk + 4)). omega (arith, few.1, enough))
      (no_room pending chunk (pending ++ chunk) refl tail big to at written wrote (subst (StopsFromWtf8Partial big (pending ++ chunk) at (length to - written)) full here))

  pub succeeds_always : 2 * (length pending + length chunk) ≤ length to → stop ≢ NoSpace
  succeeds_always enough full =
      omega (arith, enough, length-append pending chunk, next_fits big (pending ++ chunk) to at written wrote (subst (StopsFromWtf8Partial big (pending ++ chunk) at (length to - written)) full here))

  pub filled : stop ≡ NoSpace → length to < written + 4
  filled full = next_filled big (pending ++ chunk) to at written wrote (subst (StopsFromWtf8Partial big (pending ++ chunk) at (length to - written)) full here)

-- ---- the end of a stream

pub end_succeeds_always : (pending to : List ℕ) (big : Bool) (at written : ℕ) → Writes (TranscodesFromWtf8 big) pending to at written
    → (stop : Stop) → StopsFromWtf8 big pending at (length to - written) stop → 2 * length pending ≤ length to → stop ≢ NoSpace
end_succeeds_always pending to big at written wrote stop here enough full =
    omega (arith, enough, next_fits big pending to at written wrote (subst (StopsFromWtf8 big pending at (length to - written)) full here))

some_stop : (part : List ℕ) → 0 < length part → end_stop part ≡ Incomplete
some_stop [] some = absurd (omega arith)
some_stop (byte ∷ part) some = refl

module _ (pending to : List ℕ) (tail : IsWtf8Tail pending) (big : Bool) (at written : ℕ) (wrote : Writes (TranscodesFromWtf8 big) pending to at written) where
  none_behind : pending ≡ pending ++ []
  none_behind = sym (append-nil pending)

  pub end_left : IsWtf8Tail (drop at pending)
  end_left = tail_left pending [] pending none_behind tail big to at written wrote

  module _ (stop : Stop) (here : StopsFromWtf8 big pending at (length to - written) stop) where
    pub end_succeeds : 2 ≤ length to → stop ≢ NoSpace
    end_succeeds enough full = ⊎_elim
        (λ (few : length to < 2). omega (arith, few, enough))
        (λ (few : (0 < 0) × (length to < 2 * 0 + 4)). omega (arith, few.0))
        (no_room pending [] pending none_behind tail big to at written wrote (subst (StopsFromWtf8 big pending at (length to - written)) full here))

    module _ (other : stop ≢ NoSpace) where
      only : wrote.gives.points ≡ tail.leads
      only = ⊎_elim
          (λ (none : wrote.gives.points ≡ []). leads_only pending [] pending none_behind tail big to at written wrote none (all_read big pending at (length to - written) stop other here))
          (λ (some : (wrote.gives.points ≡ tail.leads) ⊎ (length pending < at)). ⊎_elim
          (λ (all : wrote.gives.points ≡ tail.leads). all)
          (λ (past : length pending < at). absurd (omega (arith, past, wrote.within)))
          some)
          (ends pending [] pending none_behind tail big to at written wrote)

      pub end_text : take written to ≡ flat_map (char_bytes big) tail.leads
      end_text = wrote.gives.units ∙ ap (flat_map (char_bytes big)) only

      left : drop at pending ≡ tail.part
      left = leads_read pending [] pending none_behind tail big to at written wrote only

      pub end_is : stop ≡ end_stop tail.part
      end_is = why stop other here where
        why : (stop : Stop) → stop ≢ NoSpace → StopsFromWtf8 big pending at (length to - written) stop → stop ≡ end_stop tail.part
        why Done other all = ap end_stop (sym (drop_all at pending (omega (arith, all))) ∙ left)
        why (IllFormed len) other found =
            let bad : Some len ≡ None = found.1 ∙ ap wtf8_error_len left ∙ truncated_has_none tail.part tail.truncated in
            absurd (cc)
        why Incomplete other cut = sym (some_stop tail.part (omega (arith, ap length left, length-drop at pending, cut.0.short)))
        why NoSpace other full = absurd (other refl)
