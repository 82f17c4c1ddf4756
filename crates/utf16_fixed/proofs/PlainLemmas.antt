-- Units without a surrogate, written block by block.
use Rattle.std.proofs.Common.{◌≡◌, ℕ, ◌+◌, ◌*◌, ◌/◌, ◌%◌, ◌≤◌, ◌≢◌, Bool, List, ◌++◌, length, take, drop, slice_index, Fits, w8, refl, sym, ap, ap₂, ◌∙◌, subst, arith, length-drop, length-take-le, take-take}
use Rattle.std.proofs.Math.Seq.{take-append-add}
use Rattle.std.proofs.lemmas.Bool.{false_from_ne_true}
use Rattle.std.proofs.lemmas.List.Elements.{All-append, All-nil, All-take}
use Rattle.utf16_units.specs.Encoding.{Encodes, units_of}
use Rattle.utf16_units.specs.Lanes.{HasNoSurrogate, IsNoSurrogate}
use Rattle.utf16_units.proofs.PairLemmas.{is_of}
use Rattle.utf16_units.proofs.UnitsUpTo.{units_of-front, units_of-next}
use Rattle.utf16_fixed.specs.Progress.{IsWidened}
use Rattle.utf16_fixed.specs.Utf32.{TranscodesToUtf32}
use Rattle.utf16_fixed.proofs.TextLemmas.{Encodes-plain_front}

-- the first m of the elements after the first n
pub take-after : {X : Type 0} (n m : ℕ) (xs ys : List X) → n ≤ length xs → take (n + m) (take n xs ++ ys) ≡ take n xs ++ take m ys
take-after n m xs ys within =
    let long = length-take-le n xs within in
    subst (λ k. take (k + m) (take n xs ++ ys) ≡ take n xs ++ take m ys) long (take-append-add (take n xs) ys m)

-- a unit that is not from 0xD800 to 0xDFFF
pub IsNoSurrogate-of : (unit : ℕ) → unit / 0x800 ≢ 0x1B → IsNoSurrogate unit
IsNoSurrogate-of unit none = grind (arith, false_from_ne_true, is_of)

pub IsWidened-none : (big : Bool) (raw old : List ℕ) → IsWidened big raw old 0
unfolding units_of
IsWidened-none big raw old = record { within = omega arith; fits = omega arith; plain = All-nil IsNoSurrogate; wrote = refl }

module _ (big : Bool) (raw old : List ℕ) (at : ℕ) (done : IsWidened big raw old at) where
  -- the first m of n more units
  pub IsWidened-more : (m n : ℕ) (new lanes : List ℕ) → m ≤ n → 2 * at + 2 * n ≤ length raw → at + n ≤ length new
      → lanes ≡ units_of big (take (2 * n) (drop (2 * at) raw)) → HasNoSurrogate (take m lanes) → take (at + n) new ≡ take at old ++ lanes
      → IsWidened big raw new (at + m)
  IsWidened-more m n new lanes few within fits are plain wrote =
      let on : 2 * (at + m) ≡ 2 * at + 2 * m = omega arith in
      let even : (2 * at) % 2 ≡ 0 = omega arith in
      let was = done.within in
      let room = done.fits in
      let next = drop (2 * at) raw in
      let long = length-drop (2 * at) raw in
      let front : take (at + m) new ≡ take at old ++ take m lanes =
      sym (take-take (at + m) (at + n) new (omega (arith, few))) ∙ ap (take (at + m)) wrote ∙ take-after at m old lanes room in
      let units : take m lanes ≡ units_of big (take (2 * m) next) =
      ap (take m) are ∙ units_of-front big (take (2 * n) next) m (omega (arith, few, length-take-le (2 * n) next (omega (arith, long, within))))
      ∙ ap (units_of big) (take-take (2 * m) (2 * n) next (omega (arith, few))) in
      record {
        within = omega (arith, within, few);
        fits = omega (arith, fits, few);
        plain = subst HasNoSurrogate (sym front) (All-append IsNoSurrogate (take at old) (take m lanes) done.plain plain);
        wrote = front ∙ ap₂ (λ x y. x ++ y) done.wrote units ∙ sym (units_of-next big raw (2 * at) (2 * m) even was) ∙ ap (λ k. units_of big (take k raw)) (sym on);
      }

  -- fewer units
  pub IsWidened-fewer : (m : ℕ) → m ≤ at → IsWidened big raw old m
  IsWidened-fewer m fewer =
      let was = done.within in
      record {
        within = omega (arith, was, fewer);
        fits = omega (arith, done.fits, fewer);
        plain = subst HasNoSurrogate (take-take m at old fewer) (All-take IsNoSurrogate m (take at old) done.plain);
        wrote =
            sym (take-take m at old fewer) ∙ ap (take m) done.wrote
            ∙ units_of-front big (take (2 * at) raw) m (omega (arith, fewer, length-take-le (2 * at) raw was))
            ∙ ap (units_of big) (take-take (2 * m) (2 * at) raw (omega (arith, fewer)));
      }

  -- they are the text of the bytes
  pub widened-text : ((k : ℕ) → Fits w8 (slice_index raw k)) → TranscodesToUtf32 big (take (2 * at) raw) (take at old)
  widened-text fits =
      let same : take at (units_of big (take (2 * at) raw)) ≡ take at old = ap (take at) (sym done.wrote) ∙ take-take at at old (omega arith) in
      subst (λ t. Encodes big t (take (2 * at) raw)) same
      (Encodes-plain_front big raw (2 * at) at done.within (omega arith) fits (subst HasNoSurrogate (sym same) done.plain))
