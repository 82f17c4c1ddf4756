-- The progress of a writer of a text.
use Rattle.std.specs.Prelude.{◌≡◌, ℕ, ◌*◌, ◌%◌, ◌≤◌, Bool, List, ◌++◌, drop, false, length, slice_index, take}
use Rattle.utf16_units.specs.Encoding.{units_of}
use Rattle.utf16_units.specs.Lanes.{PairedTo}
use Rattle.utf16_to_utf8.specs.Block.{IsPlain}
use Rattle.utf16_to_utf8.specs.declared.blocks.Kind.{Kind}
use Rattle.utf16_to_utf8.specs.declared.runs.Cursor.{Cursor}
use Rattle.utf16_to_utf8.specs.Utf8.{units_utf8}

-- what was written fits; followed by what the units that are left add, it is what all units add
pub record Reached (big : Bool) (raw out : List ℕ) (cursor : Cursor) : Type 0 where
  pub within : cursor.at ≤ length raw
  pub even : cursor.at % 2 ≡ 0
  pub short : 2 * cursor.end ≤ 3 * cursor.at
  pub fits : cursor.end ≤ length out
  pub written : take cursor.end out ++ units_utf8 (slice_index cursor.previous 7) (units_of big (drop cursor.at raw)) ≡ units_utf8 0 (units_of big raw)

-- blocks of this kind were written: if the kind has no surrogates, they are paired up to the new
-- offset if they were up to the old one
pub record Advanced (big : Bool) (kind : Kind) (raw out : List ℕ) (from to : Cursor) : Type 0 where
  pub reached : Reached big raw out to
  pub advances : from.at ≤ to.at
  pub paired : IsPlain kind → PairedTo big raw from.at false → PairedTo big raw to.at false
