-- The laws of occurrences in well-formed text.
use Rattle.std.specs.Prelude.{◌≡◌, ◌≢◌, ◌↔◌, ℕ, ◌+◌, ◌%◌, Bool, List, [], ◌++◌}
use Rattle.utf16_units.specs.Boundary.{OccursIn, text_from, text_to}
use Rattle.utf16_units.specs.Encoding.{Encodes, size}
use Rattle.utf16_units.specs.Laws.{OccursAt}
use Rattle.utf16_bytes.specs.Occurrence.{IsOccurrence}

-- the encoding of a part occurs in the encoding of a text exactly where the part occurs in the text
abbrev pub OccurrenceInText : Type 0
OccurrenceInText = (big : Bool) (text part bytes part_bytes : List ℕ) (i : ℕ) → Encodes big text bytes → Encodes big part part_bytes
    → (IsOccurrence big bytes part_bytes i ↔ OccursIn text i part)

-- so the text is what is before the part, the part, and what is after it
abbrev pub TextAroundPart : Type 0
TextAroundPart = (text part : List ℕ) (i : ℕ) → OccursIn text i part → text ≡ text_to text i ++ part ++ text_from text (i + size part)

-- if the part is not empty, it is enough that its code units are there: they cut no pair
abbrev pub UnitsCutNoPair : Type 0
UnitsCutNoPair = (big : Bool) (text part bytes part_bytes : List ℕ) (i : ℕ) → Encodes big text bytes → Encodes big part part_bytes → part ≢ []
    → (((i % 2 ≡ 0) × OccursAt bytes i part_bytes) ↔ IsOccurrence big bytes part_bytes i)
