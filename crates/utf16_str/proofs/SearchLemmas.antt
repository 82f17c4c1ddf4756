-- What a search in the bytes of a text says of its characters.
use Rattle.std.proofs.Common.{◌≡◌, ℕ, ◌+◌, All, Bool, List, ◌++◌, Option, None, Some, IfSome, refl, sym, ◌∙◌, IsTrue, ◌↔◌}
use Rattle.std.specs.Char.{IsScalar}
use Rattle.std.specs.Option.{is_some}
use Rattle.std.proofs.lemmas.Bool.{false≢true}
use Rattle.utf16_units.specs.Boundary.{OccursIn, text_from, text_to}
use Rattle.utf16_units.specs.Encoding.{Encodes, encode, size}
use Rattle.utf16_bytes.specs.Occurrence.{IsFirst, IsLast, IsOccurrence}
use Rattle.utf16_bytes.proofs.OccurrenceLemmas.{occurrence_in_text, text_around}
use Rattle.utf16_bytes.proofs.PatternLemmas.{between_parts}

module _ (big : Bool) (text part bytes part_bytes : List ℕ) (e : Encodes big text bytes) (p : Encodes big part part_bytes) where
  abbrev InText : ℕ → Type 0
  InText at = OccursIn text at part

  abbrev InBytes : ℕ → Type 0
  InBytes at = IsOccurrence big bytes part_bytes at

  out : (i : ℕ) → InBytes i → InText i
  out i = (occurrence_in_text big text part bytes part_bytes i e p).0

  into : (i : ℕ) → InText i → InBytes i
  into i = (occurrence_in_text big text part bytes part_bytes i e p).1

  pub first_in_text : (r : Option ℕ) → IsFirst InBytes r → IsFirst InText r
  first_in_text None none = λ i o. none i (into i o)
  first_in_text (Some at) found = (out at found.0, λ i less o. found.1 i less (into i o))

  pub last_in_text : (r : Option ℕ) → IsLast InBytes r → IsLast InText r
  last_in_text None none = λ i o. none i (into i o)
  last_in_text (Some at) found = (out at found.0, λ i less o. found.1 i less (into i o))

-- the same for the encoding of a part
pub first_of_part : (big : Bool) (text part bytes : List ℕ) → Encodes big text bytes → All IsScalar part → (r : Option ℕ)
    → IsFirst (λ at. IsOccurrence big bytes (encode big part) at) r → IsFirst (λ at. OccursIn text at part) r
first_of_part big text part bytes e scalars = first_in_text big text part bytes (encode big part) e (record { scalars = scalars; spelled = refl })

-- so the text is what is before the part, the part, and what is after it
abbrev pub IsAround : List ℕ → List ℕ → ℕ → Type 0
IsAround text part at = text ≡ text_to text at ++ part ++ text_from text (at + size part)

pub around_first : (text part : List ℕ) (r : Option ℕ) → IsFirst (λ at. OccursIn text at part) r → IfSome r (IsAround text part)
around_first text part None none = tt
around_first text part (Some at) found = text_around text part at found.0

pub around_last : (text part : List ℕ) (r : Option ℕ) → IsLast (λ at. OccursIn text at part) r → IfSome r (IsAround text part)
around_last text part None none = tt
around_last text part (Some at) found = text_around text part at found.0

-- whether a part occurs is whether the text is something, the part, and something
pub contains_is : (text part : List ℕ) (r : Option ℕ) (b : Bool) → b ≡ is_some r → IsFirst (λ at. OccursIn text at part) r
    → (IsTrue b ↔ ((front : List ℕ) × (back : List ℕ) × (text ≡ front ++ part ++ back)))
contains_is text part None b e none = (
  λ yes. absurd (false≢true (sym e ∙ yes)),
  λ parts. absurd (none (size parts.0) (between_parts text parts.0 part parts.1 parts.2)),
)
contains_is text part (Some at) b e found = (
  λ yes. (text_to text at, text_from text (at + size part), text_around text part at found.0),
  λ parts. e,
)
