-- A chunk of WTF-8: what was read without a leading surrogate at its end.
use Rattle.std.proofs.Common.{◌≡◌, ◌⊎◌, inl, inr, ℕ, ◌+◌, ◌-◌, ◌≤◌, Bool, true, false, List, [], ◌∷◌, ◌++◌, None, Some, All, flat_map, length, take, drop, refl, sym, ap, ◌∙◌, subst, arith, append-nil, length-append, length-take-le, take-add, take-append-drop, take_at, true≢false}
use Rattle.std.proofs.lemmas.List.{append_cancel_left, take-take}
use Rattle.std.proofs.lemmas.List.Concat.{flat_map-append}
use Rattle.utf16_units.specs.Encoding.{char_bytes}
use Rattle.utf16_units.specs.Unit.{IsLeading}
use Rattle.utf16_units.proofs.CharLemmas.{one_unit_bytes}
use Rattle.utf16_units.proofs.EncodingLemmas.{All-front}
use Rattle.utf16_units.proofs.PairLemmas.{is_of}
use Rattle.utf16_units.proofs.UnitLemmas.{length-unit_bytes}
use Rattle.utf16_transcode.specs.Transcoded.{Writes}
use Rattle.utf16_transcode.specs.declared.progress.Stop.{Stop}
use Rattle.utf16_transcode.specs.declared.progress.Stop.TheVariants.{Incomplete, Done, IllFormed, NoSpace}
use Rattle.utf16_wtf8.specs.FromWtf8.{EndsLeading, IsIllFormedWtf8, LeavesLeading, ReadsWtf8, StopsFromWtf8, StopsFromWtf8Partial, TranscodesFromWtf8, wtf8_error_len}
use Rattle.utf16_wtf8.specs.Wtf8.{HasNoPair, IsCodePoint, ends_leading, generalized_utf8}
use Rattle.utf16_wtf8.proofs.CodeLemmas.{spelled, spelled-unique}
use Rattle.utf16_wtf8.proofs.ContinuedLemmas.{bytes_of_three}
use Rattle.utf16_wtf8.proofs.MaximalLemmas.{pair_has_three}

-- code points of which the last is a leading surrogate
record EndsWith (points : List ℕ) : Type 0 where
  front : List ℕ
  lead : ℕ
  leading : IsLeading lead
  is : points ≡ front ++ lead ∷ []

ends_with : (points : List ℕ) → ends_leading points ≡ true → EndsWith points
ends_with [] ends = absurd (true≢false (sym ends))
ends_with (point ∷ []) ends = record { front = []; lead = point; leading = is_of 54 point ends; is = refl }
ends_with (point ∷ next ∷ points) ends =
    let rest = ends_with (next ∷ points) ends in
    record { front = point ∷ rest.front; lead = rest.lead; leading = rest.leading; is = ap (λ t. point ∷ t) rest.is }

no_pair-front : (points more : List ℕ) → HasNoPair (points ++ more) → HasNoPair points
no_pair-front [] more none = tt
no_pair-front (point ∷ []) more none = tt
no_pair-front (point ∷ next ∷ points) more none = (none.0, no_pair-front (next ∷ points) more none.1)

length-surrogate : (lead : ℕ) → IsLeading lead → length (generalized_utf8 lead) ≡ 3
length-surrogate lead l = ap length (sym (append-nil (generalized_utf8 lead)) ∙ bytes_of_three lead [] (omega arith) (omega arith))

length-unit : (big : Bool) (lead : ℕ) → IsLeading lead → length (char_bytes big lead) ≡ 2
length-unit big lead l = ap length (one_unit_bytes big lead (omega arith)) ∙ length-unit_bytes big lead

-- what was read ends with a leading surrogate, or it does not
pub ends_as_read : {big : Bool} {wtf8 to : List ℕ} {read written : ℕ} {leading : Bool} → ReadsWtf8 big wtf8 to read written leading → EndsLeading (take read wtf8) leading
ends_as_read before points spells =
    ap ends_leading (spelled-unique points before.points spells.each_point before.spells.each_point (spells.spelled ∙ sym before.spells.spelled)) ∙ before.last

-- the bytes without the last three, and the units without the last
module _ (big : Bool) (wtf8 to : List ℕ) (read written : ℕ) (before : ReadsWtf8 big wtf8 to read written true) where
  last : EndsWith before.points
  last = ends_with before.points before.last

  bytes : take read wtf8 ≡ spelled last.front ++ generalized_utf8 last.lead
  bytes =
      sym before.spells.spelled ∙ ap spelled last.is ∙ flat_map-append generalized_utf8 last.front (last.lead ∷ [])
      ∙ ap (λ b. spelled last.front ++ b) (append-nil (generalized_utf8 last.lead))

  units : take written to ≡ flat_map (char_bytes big) last.front ++ char_bytes big last.lead
  units =
      before.units ∙ ap (flat_map (char_bytes big)) last.is ∙ flat_map-append (char_bytes big) last.front (last.lead ∷ [])
      ∙ ap (λ b. flat_map (char_bytes big) last.front ++ b) (append-nil (char_bytes big last.lead))

  read_is : length (spelled last.front) + 3 ≡ read
  read_is = omega (arith, ap length bytes, length-append (spelled last.front) (generalized_utf8 last.lead), length-surrogate last.lead last.leading, length-take-le read wtf8 before.within)

  written_is : length (flat_map (char_bytes big) last.front) + 2 ≡ written
  written_is =
      omega (arith, ap length units, length-append (flat_map (char_bytes big) last.front) (char_bytes big last.lead), length-unit big last.lead last.leading, length-take-le written to before.fits)

  pub three_read : 3 ≤ read
  three_read = let is = read_is in omega arith

  pub two_written : 2 ≤ written
  two_written = let is = written_is in omega arith

  front_bytes : take (read - 3) wtf8 ≡ spelled last.front
  front_bytes =
      let is = read_is in
      sym (take-take (read - 3) read wtf8 (omega arith)) ∙ ap (take (read - 3)) bytes ∙ take_at (spelled last.front) (generalized_utf8 last.lead) (read - 3) (omega arith)

  front_units : take (written - 2) to ≡ flat_map (char_bytes big) last.front
  front_units =
      let is = written_is in
      sym (take-take (written - 2) written to (omega arith)) ∙ ap (take (written - 2)) units
      ∙ take_at (flat_map (char_bytes big) last.front) (char_bytes big last.lead) (written - 2) (omega arith)

  pub Writes-before : Writes (TranscodesFromWtf8 big) wtf8 to (read - 3) (written - 2)
  Writes-before = record {
    within = let within = before.within in omega arith;
    fits = let fits = before.fits in omega arith;
    gives = record {
      points = last.front;
      spells = record {
        each_point = All-front IsCodePoint last.front (last.lead ∷ []) (subst (All IsCodePoint) last.is before.spells.each_point);
        no_pair = no_pair-front last.front (last.lead ∷ []) (subst HasNoPair last.is before.spells.no_pair);
        spelled = sym front_bytes;
      };
      units = front_units;
    };
  }

  again : read - 3 + 3 ≡ read
  again = let three = three_read in omega arith

  pub leaves_leading : (read ≡ length wtf8) ⊎ IsIllFormedWtf8 wtf8 read None → LeavesLeading wtf8 (read - 3)
  leaves_leading after = record {
    lead = last.lead;
    leading = last.leading;
    within = let within = before.within in let same = again in omega arith;
    begins =
        append_cancel_left (spelled last.front) _ _
        (ap (λ b. b ++ take 3 (drop (read - 3) wtf8)) (sym front_bytes) ∙ sym (take-add (read - 3) 3 wtf8) ∙ ap (λ k. take k wtf8) again ∙ bytes);
    after = subst (λ k. (k ≡ length wtf8) ⊎ IsIllFormedWtf8 wtf8 k None) (sym again) after;
  }

-- before a leading surrogate, no code point is truncated
not_truncated : (wtf8 : List ℕ) (read : ℕ) → LeavesLeading wtf8 read → ¬ (IsIllFormedWtf8 wtf8 read None)
not_truncated wtf8 read leaves cut =
    let rest = drop read wtf8 in
    let begins : generalized_utf8 leaves.lead ++ drop 3 rest ≡ rest = ap (λ b. b ++ drop 3 rest) (sym leaves.begins) ∙ take-append-drop 3 rest in
    let three : wtf8_error_len rest ≡ Some 3 = ap wtf8_error_len (sym begins) ∙ pair_has_three leaves.lead (drop 3 rest) (omega (arith, leaves.leading)) (omega (arith, leaves.leading)) in
    absurd (cc)

-- a call that stops before a truncated code point does not stop before a leading surrogate
pub leaves_no_leading : (big : Bool) (wtf8 : List ℕ) (read left : ℕ) (stop : Stop) → stop ≡ Incomplete → StopsFromWtf8 big wtf8 read left stop → ¬ (LeavesLeading wtf8 read)
leaves_no_leading big wtf8 read left stop is here leaves = not_truncated wtf8 read leaves (subst (StopsFromWtf8 big wtf8 read left) is here)

-- why a call stops if what was read does not end with a leading surrogate
pub stops_kept : (big : Bool) (wtf8 : List ℕ) (read left : ℕ) (stop : Stop) → EndsLeading (take read wtf8) false → StopsFromWtf8 big wtf8 read left stop
    → StopsFromWtf8Partial big wtf8 read left stop
stops_kept big wtf8 read left Done ends here = (here, ends)
stops_kept big wtf8 read left (IllFormed len) ends here = here
stops_kept big wtf8 read left Incomplete ends here = inl (here, ends)
stops_kept big wtf8 read left NoSpace ends here = here

-- the call read all, or stopped before a truncated code point
pub ended : (big : Bool) (wtf8 : List ℕ) (read left : ℕ) (stop : Stop) → (stop ≡ Done) ⊎ (stop ≡ Incomplete) → StopsFromWtf8 big wtf8 read left stop
    → (read ≡ length wtf8) ⊎ IsIllFormedWtf8 wtf8 read None
ended big wtf8 read left stop (inl done) here = inl (subst (StopsFromWtf8 big wtf8 read left) done here)
ended big wtf8 read left stop (inr cut) here = inr (subst (StopsFromWtf8 big wtf8 read left) cut here)
