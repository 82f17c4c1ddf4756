-- WTF-8 followed by WTF-8.
use Rattle.std.proofs.Common.{◌≡◌, ℕ, true, List, [], ◌∷◌, ◌++◌, All, length, sym, ap, ◌∙◌, subst, arith, length-append}
use Rattle.utf16_units.specs.Unit.{IsTrailing}
use Rattle.utf16_units.proofs.EncodingLemmas.{All-back}
use Rattle.std.proofs.lemmas.List.Elements.{All-head}
use Rattle.utf16_wtf8.specs.FromWtf8.{EndsLeading}
use Rattle.utf16_wtf8.specs.Laws.{BeginsTrailing}
use Rattle.utf16_wtf8.specs.Wtf8.{HasNoPair, IsCodePoint, IsWtf8, ends_leading, generalized_utf8}
use Rattle.utf16_wtf8.proofs.CodeLemmas.{Follow, point-unique, points-follow, some_bytes, spelled, spelled-unique}
use Rattle.utf16_wtf8.proofs.ContinuedLemmas.{FirstIsTrailing, SpellsWtf8-append, no_pair-seam}
use Rattle.utf16_wtf8.proofs.UnitsLemmas.{no_pair-tail}

no_pair-back : (points more : List ℕ) → HasNoPair (points ++ more) → HasNoPair more
no_pair-back [] more none = none
no_pair-back (point ∷ points) more none = no_pair-back points more (no_pair-tail point (points ++ more) none)

-- the code points of the second come after the points of the first
module _ (front back : List ℕ) (first : IsWtf8 front) (all : IsWtf8 (front ++ back)) where
  after : Follow first.points all.points back
  after = points-follow first.points all.points back first.spells.each_point all.spells.each_point (all.spells.spelled ∙ ap (λ f. f ++ back) (sym first.spells.spelled))

  each_point : All IsCodePoint (first.points ++ after.rest)
  each_point = subst (All IsCodePoint) after.is all.spells.each_point

  no_pair : HasNoPair (first.points ++ after.rest)
  no_pair = subst HasNoPair after.is all.spells.no_pair

  pub rest_is_wtf8 : IsWtf8 back
  rest_is_wtf8 = record {
    points = after.rest;
    spells = record {
      each_point = All-back IsCodePoint first.points after.rest each_point;
      no_pair = no_pair-back first.points after.rest no_pair;
      spelled = after.spells;
    };
  }

  pub apart : EndsLeading front true → ¬ (BeginsTrailing back)
  apart ends trail = seam after.rest (All-back IsCodePoint first.points after.rest each_point) no_pair after.spells where
    seam : (rest : List ℕ) → All IsCodePoint rest → HasNoPair (first.points ++ rest) → spelled rest ≡ back → ⊥
    seam [] each none e = omega (arith, ap length (e ∙ trail.begins), length-append (generalized_utf8 trail.trail) trail.more, some_bytes trail.trail)
    seam (point ∷ rest) each none e =
        let same = point-unique point trail.trail (spelled rest) trail.more (All-head IsCodePoint point rest each) (omega arith) (e ∙ trail.begins) in
        no_pair-seam first.points point rest none (ends first.points first.spells) (subst IsTrailing (sym same.0) trail.trailing)

-- the bytes begin with their first code point
begins_trailing : (points bytes : List ℕ) → spelled points ≡ bytes → FirstIsTrailing points → BeginsTrailing bytes
begins_trailing [] bytes e t = absurd t
begins_trailing (point ∷ points) bytes e t = record { trail = point; more = spelled points; trailing = t; begins = sym e }

pub joined : (front back : List ℕ) → IsWtf8 front → IsWtf8 back → (EndsLeading front true → ¬ (BeginsTrailing back)) → IsWtf8 (front ++ back)
joined front back first second apart = record {
  points = first.points ++ second.points;
  spells =
      SpellsWtf8-append first.points second.points front back first.spells second.spells
      (λ ends t. apart
      (λ points spells. ap ends_leading (spelled-unique points first.points spells.each_point first.spells.each_point (spells.spelled ∙ sym first.spells.spelled)) ∙ ends)
      (begins_trailing second.points back second.spells.spelled t));
}
