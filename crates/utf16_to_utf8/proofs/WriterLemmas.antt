-- A step of the writer of a text: a block was written.
use Rattle.std.proofs.Common.{◌≡◌, ℕ, ◌+◌, ◌*◌, ◌≤◌, ◌++◌, Bool, List, length, take, drop, slice_index, sym, ap, ◌∙◌, arith}
use Rattle.utf16_units.specs.Encoding.{units_of}
use Rattle.utf16_units.proofs.UnitsUpTo.{units_of-behind}
use Rattle.utf16_to_utf8.specs.Cursor.{Reached}
use Rattle.utf16_to_utf8.specs.Utf8.{units_utf8}
use Rattle.utf16_to_utf8.specs.declared.runs.Cursor.{Cursor}
use Rattle.utf16_to_utf8.proofs.BlockLemmas.{wrote_units}

-- the next n + 1 units were written
pub reached-next : (n : ℕ) (big : Bool) (raw out new units : List ℕ) (from to : Cursor) → Reached big raw out from
    → from.at + 2 * (n + 1) ≤ length raw → length units ≡ n + 1 → units ≡ units_of big (take (2 * (n + 1)) (drop from.at raw))
    → to.at ≡ from.at + 2 * (n + 1) → to.end ≤ from.end + 3 * (n + 1) → slice_index to.previous 7 ≡ slice_index units n
    → to.end ≤ length new → take to.end new ≡ take from.end out ++ units_utf8 (slice_index from.previous 7) units → Reached big raw new to
reached-next n big raw out new units from to reached more long next at end last fits wrote =
    let done = take from.end out in
    let before = slice_index from.previous 7 in
    let left = units_of big (drop (from.at + 2 * (n + 1)) raw) in
    record {
      within = omega (arith, at, more);
      even = omega (arith, at, reached.even);
      short = omega (arith, at, end, reached.short);
      fits = fits;
      written = rw (at, last) (wrote_units n done _ _ units left before long wrote
          (ap (λ us. done ++ units_utf8 before (us ++ left)) next ∙ ap (λ us. done ++ units_utf8 before us) (sym (units_of-behind big raw from.at (2 * (n + 1)) (omega arith) more)) ∙ reached.written));
    }
