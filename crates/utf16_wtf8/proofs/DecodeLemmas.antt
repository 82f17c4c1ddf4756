-- All code units in WTF-8: what is certain, and then a tail.
use Rattle.std.proofs.Common.{◌≡◌, ◌≢◌, ℕ, ◌+◌, ◌-◌, ◌*◌, ◌/◌, ◌≤◌, Bool, List, [], ◌++◌, length, take, drop, refl, sym, ap, ◌∙◌, arith, append-nil, length-drop}
use Rattle.std.proofs.lemmas.List.{drop_all, nil_from_length, take_rest}
use Rattle.std.specs.List.{flat_map}
use Rattle.utf16_units.specs.Split.{split_tail}
use Rattle.utf16_units.proofs.IllFormedLemmas.{rest_from}
use Rattle.utf16_units.proofs.SplitUnique.{length-split_tail}
use Rattle.utf16_transcode.specs.WholeText.{WritesWhole}
use Rattle.utf16_transcode.specs.declared.progress.Stop.{Stop}
use Rattle.utf16_transcode.specs.declared.progress.Stop.TheVariants.{Incomplete, Done, IllFormed, NoSpace}
use Rattle.utf16_transcode.proofs.WholeLemmas.{WritesWhole-decoded, stops_whole, whole_tail, whole_text}
use Rattle.utf16_transcode.specs.Stops.{StopsPartial}
use Rattle.utf16_wtf8.specs.ToWtf8.{DecodesToWtf8, StopsToWtf8, points_of, tail_points, wtf8_split}
use Rattle.utf16_wtf8.specs.Wtf8.{code_points, generalized_utf8}
use Rattle.utf16_wtf8.proofs.PointLemmas.{points-nil, units-none}
use Rattle.utf16_wtf8.proofs.ToWtf8Lemmas.{wtf8_chunks}

module _ (big : Bool) (raw to : List ℕ) (read written : ℕ) (decodes : DecodesToWtf8 big raw to read written) where
  -- what is certain was written
  pub WritesWhole-certain : WritesWhole (points_of big) generalized_utf8 raw to read written
  WritesWhole-certain = WritesWhole-decoded (wtf8_split big) generalized_utf8 (wtf8_chunks big) raw to read written decodes

  abbrev rest : List ℕ
  rest = rest_from raw read

  abbrev last : ℕ
  last = read + length rest / 2 * 2

  size : length rest ≡ length raw - read
  size = ap length (take_rest raw read) ∙ length-drop read raw

  left : length (drop last raw) ≤ 1
  left = grind (arith, size, length-drop)

  -- and the unit of a tail after it
  pub WritesWhole-tail : (next : List ℕ) (end : ℕ) → split_tail big (drop read raw) ≡ drop read raw → end ≤ length next
      → take end next ≡ take written to ++ flat_map generalized_utf8 (tail_points big rest) → WritesWhole (points_of big) generalized_utf8 raw next last end
  WritesWhole-tail next end same fits bytes = record {
    within = let few = size in let within = decodes.within in omega arith;
    fits = fits;
    shown =
        whole_text (wtf8_split big) generalized_utf8 (wtf8_chunks big) raw (drop read raw) (take written to) decodes.decodes
        ∙ ap (λ points. take written to ++ flat_map generalized_utf8 points)
        (whole_tail (wtf8_split big) generalized_utf8 (wtf8_chunks big) (drop read raw) same ∙ ap (tail_points big) (sym (take_rest raw read)))
        ∙ sym bytes ∙ sym (append-nil (take end next))
        ∙ ap (λ points. take end next ++ flat_map generalized_utf8 points) (sym (ap code_points (units-none big (drop last raw) left) ∙ points-nil));
  }

  -- what is left after it: nothing, or an odd byte
  module _ (some : drop read raw ≢ []) (same : split_tail big (drop read raw) ≡ drop read raw) where
    few : length rest ≤ 3
    few = omega (arith, ap length same, length-split_tail big (drop read raw), ap length (take_rest raw read))

    pub all_left : length rest ≡ 2 → drop last raw ≡ []
    all_left two = grind (arith, size, drop_all)

    pub odd_left : ¬ (length rest ≡ 2) → length (drop last raw) ≡ 1
    odd_left other = grind (arith, nil_from_length, take_rest, few, size, length-drop)

-- why the call stopped, if not before a tail
pub stops_certain : (big : Bool) (rest : List ℕ) (left : ℕ) (stop : Stop) → ¬ (stop ≡ Incomplete) → StopsPartial (wtf8_split big) generalized_utf8 rest left stop → StopsToWtf8 big rest left stop
stops_certain big bytes room Done other here = here
stops_certain big bytes room (IllFormed len) other here = here
stops_certain big bytes room Incomplete other here = absurd (other refl)
stops_certain big bytes room NoSpace other here = stops_whole (wtf8_split big) generalized_utf8 (wtf8_chunks big) bytes room NoSpace other here
