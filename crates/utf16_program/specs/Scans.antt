-- What a scan found in bytes of a given byte order.
use Rattle.std.specs.Char.Utf16.{is_high_surrogate}
use Rattle.std.specs.Prelude.{◌≡◌, ℕ, ◌+◌, ◌≤◌, Bool, List, ◌∷◌, ◌++◌, MatchOption, count_by, drop, if◌then◌else◌, length, take}
use Rattle.utf16_units.specs.Encoding.{IsUtf16, text_of}
use Rattle.utf16_units.specs.Split.{Item, items_bytes, lone_lead, lone_trail, split_items, split_tail}
use Rattle.utf16_program.specs.Report.{ill_formed_lines, is_char, is_ill_formed}
use Rattle.utf16_program.specs.declared.scan.Found.{Found}
use Rattle.utf16_program.specs.declared.scan.Front.{Front}

-- the lines `old` became `new`: the lines of the items were appended; and the items were counted
pub record Scans (big : Bool) (offset : ℕ) (bytes old new : List ℕ) (found : Found) : Type 0 where
  pub lines : new ≡ old ++ ill_formed_lines big offset (split_items big bytes)
  pub taken : found.taken ≡ length (items_bytes big (split_items big bytes))
  pub left : drop found.taken bytes ≡ split_tail big bytes
  pub within : found.taken ≤ length bytes
  pub chars : found.chars ≡ count_by is_char (split_items big bytes)
  pub unpaired : found.unpaired ≡ count_by is_ill_formed (split_items big bytes)
  pub few : found.chars + found.unpaired ≤ found.taken

-- the item of an unpaired surrogate
abbrev pub lone : ℕ → Item
lone unit = if is_high_surrogate unit then lone_lead unit else lone_trail unit

-- the first item of bytes is an unpaired surrogate
pub record BeginsLone (big : Bool) (bytes : List ℕ) (unit : ℕ) : Type 0 where
  pub items : split_items big bytes ≡ lone unit ∷ split_items big (drop 2 bytes)
  pub tail : split_tail big bytes ≡ split_tail big (drop 2 bytes)
  pub long : 2 ≤ length bytes

-- the first bytes are well formed; an unpaired surrogate comes after them, or what is left is the
-- tail
pub record IsFront (big : Bool) (bytes : List ℕ) (front : Front) : Type 0 where
  pub within : front.len ≤ length bytes
  pub valid : IsUtf16 big (take front.len bytes)
  pub chars : front.chars ≡ length (text_of big (take front.len bytes))
  pub after : MatchOption front.unpaired
      (split_tail big (drop front.len bytes) ≡ drop front.len bytes) (BeginsLone big (drop front.len bytes))
