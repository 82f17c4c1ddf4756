-- WTF-8 after other WTF-8 with which it makes no pair: what is so of the rest is so of the whole.
use Rattle.std.proofs.Common.{◌≡◌, ◌⊎◌, inl, inr, ℕ, ◌+◌, ◌-◌, ◌<◌, ◌≤◌, Bool, true, false, List, [], ◌∷◌, ◌++◌, Option, None, Some, length, take, drop, refl, sym, ap, ap₂, ◌∙◌, subst, ⊎_elim, arith, append_assoc, append-nil, length-append, length-drop, length-take-le, take-add, take-append-drop, true≢false}
use borrow.Rule.Slice.PartMut.{put_mid}
use Rattle.std.proofs.lemmas.List.{drop-drop}
use Rattle.std.proofs.lemmas.List.Concat.{flat_map-append}
use Rattle.std.proofs.lemmas.List.Elements.{All-head}
use Rattle.utf16_units.specs.Encoding.{char_bytes}
use Rattle.utf16_units.specs.Unit.{IsLeading}
use Rattle.utf16_transcode.specs.Transcoded.{Writes}
use Rattle.utf16_transcode.specs.declared.progress.Stop.{Stop}
use Rattle.utf16_transcode.specs.declared.progress.Stop.TheVariants.{Incomplete, Done, IllFormed, NoSpace}
use Rattle.utf16_transcode.proofs.TranscodedLemmas.{put_end-long, take-end}
use Rattle.utf16_wtf8.specs.FromWtf8.{EndsLeading, IsIllFormedWtf8, LeavesLeading, NextPointDoesNotFit, StopsFromWtf8Partial, TranscodesFromWtf8, wtf8_error_len}
use Rattle.utf16_wtf8.specs.Wtf8.{IsCodePoint, IsWtf8, SpellsWtf8, ends_leading, generalized_utf8}
use Rattle.utf16_wtf8.proofs.CodeLemmas.{point-unique, some_bytes, spelled, spelled-unique}
use Rattle.utf16_wtf8.proofs.ConcatLemmas.{rest_is_wtf8}
use Rattle.utf16_wtf8.proofs.ContinuedLemmas.{FirstIsTrailing, SpellsWtf8-append}
use Rattle.utf16_wtf8.proofs.MaximalLemmas.{pair_has_three}

-- the first code point is a leading surrogate
pub record BeginsLeading (bytes : List ℕ) : Type 0 where
  pub lead : ℕ
  pub more : List ℕ
  pub leading : IsLeading lead
  pub begins : bytes ≡ generalized_utf8 lead ++ more

-- what was read does not end with a leading surrogate, or another one follows it
abbrev pub IsSeam : List ℕ → List ℕ → Type 0
IsSeam points rest = (ends_leading points ≡ false) ⊎ BeginsLeading rest

ends_leading-more : (points : List ℕ) (other : ℕ) (others : List ℕ) → ends_leading (points ++ other ∷ others) ≡ ends_leading (other ∷ others)
ends_leading-more [] other others = refl
ends_leading-more (point ∷ []) other others = refl
ends_leading-more (point ∷ next ∷ points) other others = ends_leading-more (next ∷ points) other others

ends_leading-append : (points others : List ℕ) → (others ≡ [] → ends_leading points ≡ false) → ends_leading others ≡ false → ends_leading (points ++ others) ≡ false
ends_leading-append points [] none ends = ap ends_leading (append-nil points) ∙ none refl
ends_leading-append points (other ∷ others) none ends = ends_leading-more points other others ∙ ends

module _ (bytes points : List ℕ) (read : ℕ) (within : read ≤ length bytes) (spells : SpellsWtf8 points (take read bytes)) (seam : IsSeam points (drop read bytes)) where
  abbrev rest : List ℕ
  rest = drop read bytes

  apart : (n : ℕ) (others : List ℕ) → SpellsWtf8 others (take n rest) → ends_leading points ≡ true → ¬ (FirstIsTrailing others)
  apart n [] after ends t = absurd t
  apart n (point ∷ others) after ends t = ⊎_elim
      (λ (other : ends_leading points ≡ false). absurd (true≢false (sym ends ∙ other)))
      (λ (next : BeginsLeading rest).
      let l = next.leading in
      let same = point-unique point next.lead (spelled others ++ drop n rest) next.more (All-head IsCodePoint point others after.each_point) (omega arith)
      (sym (append_assoc (generalized_utf8 point) (spelled others) (drop n rest)) ∙ ap (λ s. s ++ drop n rest) after.spelled ∙ take-append-drop n rest ∙ next.begins) in
      let is = same.0 in
      absurd (omega arith))
      seam

  pub follows : (n : ℕ) (others : List ℕ) → SpellsWtf8 others (take n rest) → SpellsWtf8 (points ++ others) (take (read + n) bytes)
  follows n others after =
      subst (SpellsWtf8 (points ++ others)) (sym (take-add read n bytes)) (SpellsWtf8-append points others (take read bytes) (take n rest) spells after (apart n others after))

  join : (n : ℕ) → IsWtf8 (take n rest) → IsWtf8 (take (read + n) bytes)
  join n is = record { points = points ++ is.points; spells = follows n is.points is.spells }

  behind : (n : ℕ) → IsWtf8 (take (read + n) bytes) → IsWtf8 (take n rest)
  behind n is = rest_is_wtf8 (take read bytes) (take n rest) record { points = points; spells = spells } (subst IsWtf8 (take-add read n bytes) is)

  left : length rest ≡ length bytes - read
  left = length-drop read bytes

  error_same : (n : ℕ) → wtf8_error_len (drop n rest) ≡ wtf8_error_len (drop (read + n) bytes)
  error_same n = ap wtf8_error_len (drop-drop n read bytes)

  ill_here : (n : ℕ) (error_len : Option ℕ) → IsIllFormedWtf8 rest n error_len → IsIllFormedWtf8 bytes (read + n) error_len
  ill_here n error_len fault =
      let valid = fault.0 in (
        record {
          short = omega (arith, valid.short, left);
          front = join n valid.front;
          longest = λ m past is.
              let same : read + (m - read) ≡ m = omega (arith, past) in
              valid.longest (m - read) (omega (arith, past)) (behind (m - read) (subst (λ k. IsWtf8 (take k bytes)) (sym same) is));
        },
        fault.1 ∙ error_same n,
      )

  ill_behind : (n : ℕ) (error_len : Option ℕ) → IsIllFormedWtf8 bytes (read + n) error_len → IsIllFormedWtf8 rest n error_len
  ill_behind n error_len fault =
      let valid = fault.0 in (
        record {
          short = omega (arith, valid.short, left);
          front = behind n valid.front;
          longest = λ m past is. valid.longest (read + m) (omega (arith, past)) (join m is);
        },
        fault.1 ∙ sym (error_same n),
      )

  next_here : (big : Bool) (n room : ℕ) → NextPointDoesNotFit big rest n room → NextPointDoesNotFit big bytes (read + n) room
  next_here big n room here =
      let k = length (generalized_utf8 here.point) in
      let same : read + (n + k) ≡ read + n + k = omega arith in
      record {
        point = here.point;
        more = here.more;
        code_point = here.code_point;
        begins = sym (drop-drop n read bytes) ∙ here.begins;
        continues = subst (λ j. IsWtf8 (take j bytes)) same (join (n + k) here.continues);
        too_long = here.too_long;
      }

  three_more : (n : ℕ) → read + (n + 3) ≡ read + n + 3
  three_more n = omega arith

  leaves_here : (n : ℕ) → LeavesLeading rest n → LeavesLeading bytes (read + n)
  leaves_here n leaves = record {
    lead = leaves.lead;
    leading = leaves.leading;
    within = omega (arith, leaves.within, left);
    begins = ap (take 3) (sym (drop-drop n read bytes)) ∙ leaves.begins;
    after = ⊎_elim
        (λ (end : n + 3 ≡ length rest). inl (omega (arith, end, left, within)))
        (λ (cut : IsIllFormedWtf8 rest (n + 3) None). inr (subst (λ k. IsIllFormedWtf8 bytes k None) (three_more n) (ill_here (n + 3) None cut)))
        leaves.after;
  }

  pub leaves_behind : (n : ℕ) → LeavesLeading bytes (read + n) → LeavesLeading rest n
  leaves_behind n leaves = record {
    lead = leaves.lead;
    leading = leaves.leading;
    within = omega (arith, leaves.within, left);
    begins = ap (take 3) (drop-drop n read bytes) ∙ leaves.begins;
    after = ⊎_elim
        (λ (end : read + n + 3 ≡ length bytes). inl (omega (arith, end, left)))
        (λ (cut : IsIllFormedWtf8 bytes (read + n + 3) None). inr (ill_behind (n + 3) None (subst (λ k. IsIllFormedWtf8 bytes k None) (sym (three_more n)) cut)))
        leaves.after;
  }

  module _ (n : ℕ) (others : List ℕ) (after : SpellsWtf8 others (take n rest)) where
    ends_here : (others ≡ [] → ends_leading points ≡ false) → EndsLeading (take n rest) false → EndsLeading (take (read + n) bytes) false
    ends_here none ends all is =
        let both = follows n others after in
        ap ends_leading (spelled-unique all (points ++ others) is.each_point both.each_point (is.spelled ∙ sym both.spelled))
        ∙ ends_leading-append points others none (ends others after)

    -- if nothing was read of the rest, it does not begin with a leading surrogate
    none_read : others ≡ [] → n ≤ length rest → n ≡ 0
    none_read none few = sym (length-take-le n rest few) ∙ ap length (sym after.spelled ∙ ap spelled none)

    long_lead : BeginsLeading rest → 0 < length rest
    long_lead next = omega (arith, ap length next.begins, length-append (generalized_utf8 next.lead) next.more, some_bytes next.lead)

    pub stops_here : (big : Bool) (room : ℕ) (stop : Stop) → StopsFromWtf8Partial big rest n room stop → StopsFromWtf8Partial big bytes (read + n) room stop
    stops_here big room Done here =
        let all = here.0 in (
          omega (arith, left, within),
          ends_here
              (λ none. ⊎_elim
              (λ (other : ends_leading points ≡ false). other)
              (λ (next : BeginsLeading rest). absurd (omega (arith, none_read none (omega arith), long_lead next)))
              seam)
              here.1,
        )
    stops_here big room (IllFormed len) here = ill_here n (Some len) here
    stops_here big room NoSpace here = next_here big n room here
    stops_here big room Incomplete (inr leaves) = inr (leaves_here n leaves)
    stops_here big room Incomplete (inl cut) =
        inl (
          ill_here n None cut.0,
          ends_here
              (λ none. ⊎_elim
              (λ (other : ends_leading points ≡ false). other)
              (λ (next : BeginsLeading rest).
              let zero = none_read none (omega arith) in
              let three : wtf8_error_len rest ≡ Some 3 = ap wtf8_error_len next.begins ∙ pair_has_three next.lead next.more (omega arith) (omega arith) in
              absurd (cc))
              seam)
              cut.1,
        )

-- what a second call wrote follows what the first one wrote
module _ (big : Bool) (bytes old part : List ℕ) (read at n w : ℕ) (before : Writes (TranscodesFromWtf8 big) bytes old read at)
    (seam : IsSeam before.gives.points (drop read bytes)) (after : Writes (TranscodesFromWtf8 big) (drop read bytes) part n w) (long : length part ≡ length old - at) where
  abbrev new : List ℕ
  new = put_mid at (length old - at) old part

  new_long : length new ≡ length old
  new_long = put_end-long at old part before.fits long

  pub Writes-behind : Writes (TranscodesFromWtf8 big) bytes new (read + n) (at + w)
  Writes-behind = record {
    within = omega (arith, before.within, after.within, length-drop read bytes);
    fits = omega (arith, before.fits, after.fits, long, new_long);
    gives = record {
      points = before.gives.points ++ after.gives.points;
      spells = follows bytes before.gives.points read before.within before.gives.spells seam n after.gives.points after.gives.spells;
      units =
          take-end at w old part before.fits long after.fits ∙ ap₂ (λ a b. a ++ b) before.gives.units after.gives.units
          ∙ sym (flat_map-append (char_bytes big) before.gives.points after.gives.points);
    };
  }

  room_left : length part - w ≡ length new - (at + w)
  room_left = omega (arith, long, new_long)

  pub stops_behind : (stop : Stop) → StopsFromWtf8Partial big (drop read bytes) n (length part - w) stop → StopsFromWtf8Partial big bytes (read + n) (length new - (at + w)) stop
  stops_behind stop here =
      subst (λ k. StopsFromWtf8Partial big bytes (read + n) k stop) room_left
      (stops_here bytes before.gives.points read before.within before.gives.spells seam n after.gives.points after.gives.spells big (length part - w) stop here)

  pub fits_behind : (LeavesLeading (drop read bytes) n → 2 ≤ length part - w) → LeavesLeading bytes (read + n) → 2 ≤ length new - (at + w)
  fits_behind fits leaves = omega (arith, room_left, fits (leaves_behind bytes before.gives.points read before.within before.gives.spells seam n leaves))
