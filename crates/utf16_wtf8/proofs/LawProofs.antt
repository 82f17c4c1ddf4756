-- The laws of WTF-8.
use Rattle.std.proofs.Common.{◌++◌, map, refl, sym, ap, ap₂, ◌∙◌, flat_map, append_assoc, encode_utf8_all}
use Rattle.std.proofs.lemmas.List.{map-append}
use Rattle.std.proofs.lemmas.List.Elements.{All-weaker}
use Rattle.std.specs.Char.{IsScalar}
use Rattle.std.specs.Str.{IsUtf8}
use Rattle.utf16_units.specs.Encoding.{units_of}
use Rattle.utf16_units.specs.Split.{split_items, split_tail}
use Rattle.utf16_units.proofs.EncodingLemmas.{All-from_all_scalars, all_scalars-from_All}
use Rattle.utf16_units.proofs.SplitJoin.{split_items-append, split_tail-append}
use Rattle.utf16_wtf8.specs.Laws.{AreWellFormed, BackAndThere, Concatenates, CutAnywhere, LenIsFew, LenIsMaximal, NoneIfTruncated, PairHasThree, RestIsWtf8, ReturnsToWtf8, ThereAndBack, TruncatedHasNone, UnitsAreUnique, UnitsAreWtf8, Utf8IfWellFormed, Wtf8HasUnits}
use Rattle.utf16_wtf8.specs.ToWtf8.{item_point, tail_points}
use Rattle.utf16_wtf8.specs.Wtf8.{IsCodePoint, code_points, generalized_utf8, wtf8_of_units}
use Rattle.utf16_wtf8.proofs.CodeLemmas.{spelled-unique}
use Rattle.utf16_wtf8.proofs.ConcatLemmas as concat
use Rattle.utf16_wtf8.proofs.LongerLemmas as longer
use Rattle.utf16_wtf8.proofs.MaximalLemmas as maximal
use Rattle.utf16_wtf8.proofs.PointLemmas.{points_of-split, split_points}
use Rattle.utf16_wtf8.proofs.ScalarLemmas.{code_point-scalar, no_pair-scalars}
use Rattle.utf16_wtf8.proofs.TailLemmas as tail
use Rattle.utf16_wtf8.proofs.UnitsLemmas as units

pub there_and_back : ThereAndBack
there_and_back = units.there_and_back

pub back_and_there : BackAndThere
back_and_there = units.back_and_there

pub units_are_wtf8 : UnitsAreWtf8
units_are_wtf8 us are = record {
  points = code_points us;
  spells = record { each_point = units.are_points us are; no_pair = units.are_no_pairs us; spelled = refl };
}

pub wtf8_has_units : Wtf8HasUnits
wtf8_has_units bytes is =
    let spells = is.spells in (
      units.units_for is.points,
      units.are_units is.points spells.each_point,
      ap (flat_map generalized_utf8) (units.back_and_there is.points spells.each_point spells.no_pair) ∙ spells.spelled,
    )

pub units_are_unique : UnitsAreUnique
units_are_unique us others are every same =
    let points = spelled-unique (code_points us) (code_points others) (units.are_points us are) (units.are_points others every) same in
    sym (units.there_and_back us are) ∙ ap units.units_for points ∙ units.there_and_back others every

pub utf8_if_well_formed : Utf8IfWellFormed
utf8_if_well_formed us are = (well_formed, utf8) where
  well_formed : IsUtf8 (wtf8_of_units us) → AreWellFormed us
  well_formed is =
      let text = is.0 in
      let scalars = All-from_all_scalars text is.1.0 in
      let points = spelled-unique text (code_points us) (All-weaker IsScalar IsCodePoint code_point-scalar text scalars) (units.are_points us are) is.1.1 in
      (text, scalars, ap units.units_for points ∙ units.there_and_back us are)

  utf8 : AreWellFormed us → IsUtf8 (wtf8_of_units us)
  utf8 is =
      let text = is.0 in
      let points = sym (ap code_points is.2) ∙ units.back_and_there text (All-weaker IsScalar IsCodePoint code_point-scalar text is.1) (no_pair-scalars text is.1) in
      (text, (all_scalars-from_All text is.1, ap encode_utf8_all (sym points)))

pub cut_anywhere : CutAnywhere
cut_anywhere big front back =
    let rest = split_tail big front ++ back in
    points_of-split big (front ++ back)
    ∙ ap₂ (split_points big) (split_items-append big front back) (split_tail-append big front back)
    ∙ ap (λ points. points ++ tail_points big (split_tail big rest)) (map-append item_point (split_items big front) (split_items big rest))
    ∙ append_assoc (map item_point (split_items big front)) (map item_point (split_items big rest)) (tail_points big (split_tail big rest))
    ∙ ap (λ points. map item_point (split_items big front) ++ points) (sym (points_of-split big rest))

pub returns_to_wtf8 : ReturnsToWtf8
returns_to_wtf8 big wtf8 raw is =
    let spells = is.spells in
    ap (λ b. flat_map generalized_utf8 (code_points (units_of big b))) is.units
    ∙ ap (λ us. flat_map generalized_utf8 (code_points us)) (units.units_of-points big is.points)
    ∙ ap (flat_map generalized_utf8) (units.back_and_there is.points spells.each_point spells.no_pair) ∙ spells.spelled

pub concatenates : Concatenates
concatenates front back first second = (concat.apart front back first, concat.joined front back first second)

pub rest_is_wtf8 : RestIsWtf8
rest_is_wtf8 = concat.rest_is_wtf8

pub len_is_maximal : LenIsMaximal
len_is_maximal = maximal.len_is_maximal

pub none_if_truncated : NoneIfTruncated
none_if_truncated = maximal.none_if_truncated

pub pair_has_three : PairHasThree
pair_has_three = maximal.pair_has_three

pub len_is_few : LenIsFew
len_is_few = longer.len_is_few

pub truncated_has_none : TruncatedHasNone
truncated_has_none = tail.truncated_has_none

-- laws, for the functions that state them
pub ruleset laws = (
  there_and_back,
  back_and_there,
  units_are_wtf8,
  wtf8_has_units,
  units_are_unique,
  utf8_if_well_formed,
  cut_anywhere,
  rest_is_wtf8,
  none_if_truncated,
  pair_has_three,
  len_is_few,
  truncated_has_none,
)
