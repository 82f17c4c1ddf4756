-- What the filters from UTF-8 to UTF-16 write, and what they did to the bytes that remain in their
-- reader and to those that their writer holds, if these are known.
use Rattle.std.specs.Prelude.{ℕ, Bool, List, [], ◌∷◌, ◌++◌, Option, Result, chars, if◌then◌else◌}
use Rattle.std.specs.Str.Lossy.{utf8_lossy}
use Rattle.utf16_units.specs.Encoding.{encode}
use Rattle.utf16_units.specs.Unit.{unit_bytes}
use Rattle.utf8_bytes.specs.Split.{decided_text}
use Rattle.utf16_streams.specs.Bom.{begins_with}
use Rattle.utf16_streams.specs.Filter.{FiltersBy}
use Rattle.utf16_streams.specs.declared.filters.FilterFault.{FilterFault}

-- the UTF-16 of the certain text: the items of the split, with U+FFFD for each maximal subpart of
-- an ill-formed subsequence (Unicode, section 3.9: U+FFFD substitution of maximal subparts)
abbrev pub decided_utf16 : Bool → List ℕ → List ℕ
decided_utf16 big bytes = encode big (decided_text bytes)

-- the UTF-16 of the whole text of the bytes, as std's lossy decoding gives it: it also has U+FFFD
-- for an incomplete end
abbrev pub whole_utf16 : Bool → List ℕ → List ℕ
whole_utf16 big bytes = encode big (chars (utf8_lossy bytes))

-- U+FEFF in UTF-16 (Unicode, section 23.8: byte order mark)
abbrev pub bom : Bool → List ℕ
bom big = unit_bytes big 0xFEFF

-- the bytes begin with the BOM
abbrev pub begins_with_bom : Bool → List ℕ → Bool
begins_with_bom big bytes = if big then begins_with 0xFE 0xFF bytes else begins_with 0xFF 0xFE bytes

-- the bytes with one BOM first: they begin with one, or it is put before them (Unicode, section
-- 3.10: UTF-16 encoding scheme)
abbrev pub with_bom : Bool → List ℕ → List ℕ
with_bom big bytes = if begins_with_bom big bytes then bytes else bom big ++ bytes

-- the same for the certain output: as long as there are no bytes, no BOM is certain
abbrev pub some_with_bom : Bool → List ℕ → List ℕ
some_with_bom big [] = []
some_with_bom big (first ∷ bytes) = with_bom big (first ∷ bytes)

-- the certain output and the whole output, with a BOM first or without one
abbrev pub certain : Bool → Bool → List ℕ → List ℕ
certain bom_first big bytes =
    if bom_first then some_with_bom big (decided_utf16 big bytes) else decided_utf16 big bytes

abbrev pub entire : Bool → Bool → List ℕ → List ℕ
entire bom_first big bytes =
    if bom_first then with_bom big (whole_utf16 big bytes) else whole_utf16 big bytes

-- what `encode_stream` did
abbrev pub EncodesAs : Bool → Option (List ℕ) → Option (List ℕ)
    → Option (List ℕ) → Option (List ℕ) → Result (Unit {0}) FilterFault → Type 0
EncodesAs big = FiltersBy (decided_utf16 big) (whole_utf16 big)

-- what `encode_stream_with_bom` did
abbrev pub EncodesWithBom : Bool → Option (List ℕ) → Option (List ℕ)
    → Option (List ℕ) → Option (List ℕ) → Result (Unit {0}) FilterFault → Type 0
EncodesWithBom big = FiltersBy (λ bytes. some_with_bom big (decided_utf16 big bytes))
    (λ bytes. with_bom big (whole_utf16 big bytes))
