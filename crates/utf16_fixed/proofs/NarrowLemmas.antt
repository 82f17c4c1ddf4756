-- Units written as bytes of Latin-1.
use Rattle.std.proofs.Common.{◌≡◌, ℕ, ◌+◌, ◌*◌, ◌%◌, ◌≤◌, Bool, List, [], ◌∷◌, ◌++◌, length, take, drop, slice_index, Fits, w8, refl, sym, ap, ◌∙◌, arith, flat_map, drop-drop, length-take-le}
use Rattle.std.proofs.lemmas.List.{drop-set-lt, length-set, take_more_set}
use Rattle.std.proofs.lemmas.Simd.{chunk-fits, length-put_chunk, put_chunk_is, take_more_put_chunk}
use Rattle.std.proofs.lemmas.Slice.{drop-put_mid}
use Rattle.std.proofs.Math.ListN.{set}
use Rattle.std.specs.Simd.Lanes.{put_chunk}
use Rattle.utf16_units.specs.Unit.{unit_bytes, unit_of}
use Rattle.utf16_units.specs.Encoding.{Encodes, units_of}
use Rattle.utf16_units.proofs.BlockUnits.{bytes-units_of}
use Rattle.utf16_units.proofs.UnitsUpTo.{units_of-next, units_of-one}
use Rattle.utf16_fixed.specs.Written.{IsNarrowed}
use Rattle.utf16_fixed.proofs.CharLemmas.{bytes-scalars, encode-bytes}

-- what is after a vector that was stored stays
pub drop-put_chunk : (at : ℕ) (old v : List ℕ) (m : ℕ) → m ≡ at + length v → m ≤ length old → drop m (put_chunk at old v) ≡ drop m old
drop-put_chunk at old v m is fits = grind (arith, put_chunk_is, drop-put_mid)

pub IsNarrowed-none : (big : Bool) (raw old : List ℕ) → IsNarrowed big raw old old 0
unfolding units_of
IsNarrowed-none big raw old = record { within = omega arith; fits = omega arith; wrote = refl; rest = refl }

module _ (big : Bool) (raw before old : List ℕ) (at : ℕ) (done : IsNarrowed big raw before old at) where
  -- n more units
  next : (n : ℕ) (new more : List ℕ) → 2 * (at + n) ≤ length raw → at + n ≤ length new → more ≡ units_of big (take (2 * n) (drop (2 * at) raw))
      → take (at + n) new ≡ take at old ++ more → drop (at + n) new ≡ drop (at + n) old → IsNarrowed big raw before new (at + n)
  next n new more within fits is wrote rest =
      let even : (2 * at) % 2 ≡ 0 = omega arith in
      let on : 2 * (at + n) ≡ 2 * at + 2 * n = omega arith in
      let was = done.within in
      record {
        within = within;
        fits = fits;
        wrote = grind (arith, units_of-next);
        rest =
            rest ∙ sym (drop-drop n at old) ∙ ap (drop n) done.rest ∙ drop-drop n at before;
      }

  -- a block
  pub IsNarrowed-block : (n : ℕ) (block : List ℕ) → length block ≡ n → 2 * (at + n) ≤ length raw → at + n ≤ length old
      → block ≡ units_of big (take (2 * n) (drop (2 * at) raw)) → IsNarrowed big raw before (put_chunk at old block) (at + n)
  IsNarrowed-block n block long within fits is =
      next n (put_chunk at old block) block within (omega (arith, fits, length-put_chunk at old block)) is
      (take_more_put_chunk at old block (at + n) (omega (arith, long)) fits)
      (drop-put_chunk at old block (at + n) (omega (arith, long)) fits)

  -- one unit
  pub IsNarrowed-unit : (unit : ℕ) → 2 * (at + 1) ≤ length raw → at + 1 ≤ length old
      → unit ≡ unit_of big (slice_index raw (2 * at)) (slice_index raw (2 * at + 1)) → IsNarrowed big raw before (set old at unit) (at + 1)
  IsNarrowed-unit unit within fits is =
      next 1 (set old at unit) (unit ∷ []) within (omega (arith, fits, length-set old at unit))
      (ap (λ u. u ∷ []) is ∙ sym (units_of-one big raw (2 * at) (omega (arith, within))))
      (take_more_set old at unit (omega (arith, fits)))
      (drop-set-lt (at + 1) old at unit (omega arith))

-- what was written is the text of what was read
pub narrowed-text : (big : Bool) (raw old new : List ℕ) (n : ℕ) → IsNarrowed big raw old new n → ((k : ℕ) → Fits w8 (slice_index raw k)) → ((k : ℕ) → Fits w8 (slice_index new k))
    → Encodes big (take n new) (take (2 * n) raw)
narrowed-text big raw old new n done raw_fits new_fits =
    let bytes = chunk-fits w8 0 n new new_fits in
    let was = done.within in
    record {
      scalars = bytes-scalars (take n new) bytes;
      spelled =
          sym (encode-bytes big (take n new) bytes) ∙ ap (flat_map (unit_bytes big)) done.wrote
          ∙ bytes-units_of big n (take (2 * n) raw) (omega (arith, length-take-le (2 * n) raw was)) (chunk-fits w8 0 (2 * n) raw raw_fits);
    }
