-- What a filter did to the bytes that remain in its reader and to those that its writer holds, if
-- these are known.
use Rattle.std.specs.Prelude.{◌≢◌, ℕ, ◌+◌, ◌-◌, ◌≤◌, ◌^◌, Bool, List, ◌++◌, Option, Some, None, Result, Ok, Err, codes, encode_utf8_all, length, take}
use Rattle.std.specs.Io.{StartsWith}
use Rattle.std.specs.Io.KnownBytes.{Appends, Consumes, IsAtEnd}
use Rattle.utf16_units.specs.Split.{whole_lossy_chars, lossy_chars}
use Rattle.utf16_streams.specs.Bom.{items_in, tail_in}
use Rattle.utf16_streams.specs.Continues.{Continues}
use Rattle.utf16_streams.specs.declared.filters.FilterFault.{FilterFault}
use Rattle.utf16_streams.specs.declared.filters.FilterFault.TheVariants.{Long, Memory, Read, Write}

-- the UTF-8 of the certain text: the items of the split, with U+FFFD for each ill-formed one
abbrev pub decided_utf8 : Option Bool → List ℕ → List ℕ
decided_utf8 order bytes = encode_utf8_all (lossy_chars (items_in order bytes))

-- the UTF-8 of the whole text: the certain text, and U+FFFD if the split leaves a tail
abbrev pub whole_utf8 : Option Bool → List ℕ → List ℕ
whole_utf8 order bytes =
    encode_utf8_all (whole_lossy_chars (items_in order bytes) (tail_in order bytes))

-- once `piece` has come after the bytes `pending` in the order `order`, the bytes `kept` are
-- pending in the order `now`, and decide what more bytes add
abbrev pub ContinuesUtf8 : Option Bool → List ℕ → Option Bool → List ℕ → List ℕ → Type 0
ContinuesUtf8 order pending now kept piece = Continues (λ b. decided_utf8 order (pending ++ b))
    (λ b. whole_utf8 order (pending ++ b)) (λ b. decided_utf8 now (kept ++ b))
    (λ b. whole_utf8 now (kept ++ b)) piece

-- a prefix of the bytes was written, possibly none or all of them
abbrev pub AppendsPrefix : Option (List ℕ) → Option (List ℕ) → List ℕ → Type 0
AppendsPrefix old new bytes = (n : ℕ) × Appends old new (take n bytes)

-- n is the length of a prefix of the bytes that is at most 4,096 bytes shorter than they are
abbrev pub IsNearEnd : List ℕ → ℕ → Type 0
IsNearEnd bytes n = (n ≤ length bytes) × (length bytes ≤ n + 4096)

-- `decided` gives the output that is certain once some bytes were read, and `whole` the whole
-- output if the input ends with them
module _ (decided whole : List ℕ → List ℕ) (input left old new : Option (List ℕ)) where
  -- the input was read to its end, and its whole output was written
  abbrev pub FiltersAll : Type 0
  FiltersAll = (bytes : List ℕ)
      × Consumes input left bytes × IsAtEnd left × Appends old new (whole bytes)

  -- at least `least` bytes were read, and the output that is certain for them was written
  abbrev pub FiltersSome : ℕ → Type 0
  FiltersSome least = (bytes : List ℕ)
      × Consumes input left bytes × (least ≤ length bytes) × Appends old new (decided bytes)

  -- some bytes were read; the certain output of all but the last 8 to 4,096 of them was written,
  -- and with these more output is certain
  abbrev pub FiltersBefore : Type 0
  FiltersBefore = (bytes : List ℕ) × Consumes input left bytes
      × ((n : ℕ) × (n + 8 ≤ length bytes) × IsNearEnd bytes n
      × (decided (take n bytes) ≢ decided bytes) × Appends old new (decided (take n bytes)))

  -- some bytes were read; a prefix of their whole output was written, with at least the certain
  -- output of all but the last 4,096 of them
  abbrev pub FiltersPrefix : Type 0
  FiltersPrefix = (bytes : List ℕ) × Consumes input left bytes
      × ((written : List ℕ) × Appends old new written × StartsWith (whole bytes) written
      × ((n : ℕ) × IsNearEnd bytes n × StartsWith written (decided (take n bytes))))

  -- what a filter did, by its result
  abbrev pub FiltersBy : Result (Unit {0}) FilterFault → Type 0
  FiltersBy (Ok done) = FiltersAll
  FiltersBy (Err Read) = FiltersSome 0
  FiltersBy (Err Write) = FiltersPrefix
  FiltersBy (Err Memory) = FiltersBefore
  FiltersBy (Err Long) = FiltersSome (2 ^ 64 - 1)

-- from UTF-16 to UTF-8; the order is `Some true` for big endian, `Some false` for little endian,
-- and `None` if the BOM gives it
module _ (order : Option Bool) where
  -- the input was read to its end, and its whole text was written
  abbrev pub Filters : Option (List ℕ) → Option (List ℕ)
      → Option (List ℕ) → Option (List ℕ) → Type 0
  Filters = FiltersAll (decided_utf8 order) (whole_utf8 order)

  -- what a filter did, by its result
  abbrev pub FiltersIn : Option (List ℕ) → Option (List ℕ)
      → Option (List ℕ) → Option (List ℕ) → Result (Unit {0}) FilterFault → Type 0
  FiltersIn = FiltersBy (decided_utf8 order) (whole_utf8 order)

-- what `filter` did, in a given byte order
abbrev pub FiltersAs : Bool → Option (List ℕ) → Option (List ℕ)
    → Option (List ℕ) → Option (List ℕ) → Result (Unit {0}) FilterFault → Type 0
FiltersAs big = FiltersIn (Some big)

-- what `filter_auto` did, in the byte order that the BOM gives
abbrev pub FiltersAuto : Option (List ℕ) → Option (List ℕ)
    → Option (List ℕ) → Option (List ℕ) → Result (Unit {0}) FilterFault → Type 0
FiltersAuto = FiltersIn None

-- what `Display` writes
abbrev pub fault_text : FilterFault → List ℕ
fault_text Read = codes "read failed"
fault_text Write = codes "write failed"
fault_text Memory = codes "out of memory"
fault_text Long = codes "input too long"

-- the number of I/O errors of the reader if a filter returns this result
abbrev pub read_faults : Result (Unit {0}) FilterFault → ℕ
read_faults (Ok done) = 0
read_faults (Err Read) = 1
read_faults (Err Write) = 0
read_faults (Err Memory) = 0
read_faults (Err Long) = 0

-- the number of I/O errors of the writer if a filter returns this result
abbrev pub write_faults : Result (Unit {0}) FilterFault → ℕ
write_faults (Ok done) = 0
write_faults (Err Read) = 0
write_faults (Err Write) = 1
write_faults (Err Memory) = 0
write_faults (Err Long) = 0
