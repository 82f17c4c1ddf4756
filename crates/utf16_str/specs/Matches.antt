-- What is made of the substrings between occurrences of a part: fewer of them, with their
-- terminators, and the occurrences.
use Rattle.std.specs.Prelude.{◌==◌, ℕ, zero, suc, ◌+◌, ◌-◌, All, List, [], ◌∷◌, ◌++◌, Option, None, Some, length, if◌then◌else◌}
use Rattle.std.specs.Iterator.{YieldsFirstBy}
use Rattle.std.specs.Iterator.Runs.{EachRunFrom, EveryRun, ItemsMapTo}
use Rattle.std.specs.List.{slice_split}
use Rattle.utf16_units.specs.declared.byte_order.Utf16Order.{Ghosts}
use Rattle.utf16_units.specs.Encoding.{size}
use Rattle.utf16_str.specs.Substrings.{LiesAt, offsets_from}
use Rattle.utf16_str.specs.WStr.{wstr_text}
use Rattle.utf16_str.specs.declared.wstr.WStr.{WStr}

-- the first n substrings: the last of them is all that are left, joined
abbrev pub limited : (List (List ℕ) → List ℕ) → ℕ → List (List ℕ) → List (List ℕ)
limited join zero parts = []
limited join (suc n) [] = []
limited join (suc zero) (part ∷ parts) = join (part ∷ parts) ∷ []
limited join (suc (suc n)) (part ∷ parts) = part ∷ limited join (suc n) parts

-- the substrings without the last one, if that is empty
abbrev pub without_empty_last : List (List ℕ) → List (List ℕ)
without_empty_last [] = []
without_empty_last (last ∷ []) = if length last == 0 then [] else last ∷ []
without_empty_last (part ∷ next ∷ parts) = part ∷ without_empty_last (next ∷ parts)

-- the offsets of the lines: each is that of the substring between line feeds that it is made of
abbrev pub line_offsets : List ℕ → List ℕ
line_offsets text = offsets_from 2 0 (without_empty_last (slice_split (λ c. c == 10) text))

-- the substrings without an empty last one, each with the terminator that follows it: all but the
-- last have one
abbrev pub with_terminators : List ℕ → List (List ℕ) → List (List ℕ)
with_terminators terminator [] = []
with_terminators terminator (last ∷ []) = if length last == 0 then [] else last ∷ []
with_terminators terminator (part ∷ next ∷ parts) = (part ++ terminator) ∷ with_terminators terminator (next ∷ parts)

-- the part that occurs after each substring but the last, with its offset in bytes, if the first
-- substring is at `offset`
abbrev pub match_offsets : List ℕ → ℕ → List (List ℕ) → List (ℕ × List ℕ)
match_offsets part offset [] = []
match_offsets part offset (last ∷ []) = []
match_offsets part offset (text ∷ next ∷ texts) = (offset + size text, part) ∷ match_offsets part (offset + size text + size part) (next ∷ texts)

-- the part that occurs before each substring but the last, with its offset, if the substrings come
-- from the end and the first one ends at `end`
abbrev pub rmatch_offsets : List ℕ → ℕ → List (List ℕ) → List (ℕ × List ℕ)
rmatch_offsets part end [] = []
rmatch_offsets part end (last ∷ []) = []
rmatch_offsets part end (text ∷ next ∷ texts) = (end - size text - size part, part) ∷ rmatch_offsets part (end - size text - size part) (next ∷ texts)

-- the occurrence that ends a substring: none ends the last one
abbrev pub closing : List ℕ → Option (List ℕ) → List ℕ
closing part None = []
closing part (Some rest) = part

-- how many bytes the characters that are left take
abbrev pub left_size : Option (List ℕ) → ℕ
left_size None = 0
left_size (Some rest) = size rest

-- the characters that are left
abbrev pub left_text : Option (List ℕ) → List ℕ
left_text None = []
left_text (Some rest) = rest

-- an iterator whose model is the list of the occurrences that are left yields them, in order, each
-- an offset and a view; the view given determines their type
abbrev pub YieldsTextsAt : {E : Type 0} {order : Ghosts E} → WStr E order → Type 0
YieldsTextsAt {E = E} {order = order} like =
    EveryRun (YieldsFirstBy (λ (at : ℕ × WStr E order). (at.0, wstr_text {E = E} {order = order} at.1)) (λ (rest : List (ℕ × List ℕ)). rest))
    (λ p. ItemsMapTo p (λ (at : ℕ × WStr E order). (at.0, wstr_text {E = E} {order = order} at.1)) p.from)

-- an iterator that has these occurrences left yields views of the given view's bytes, each from its
-- offset on
abbrev pub YieldsPartsAt : {E : Type 0} {order : Ghosts E} → WStr E order → List (ℕ × List ℕ) → Type 0
YieldsPartsAt {E = E} {order = order} whole left =
    EachRunFrom (YieldsFirstBy (λ (at : ℕ × WStr E order). (at.0, wstr_text {E = E} {order = order} at.1)) (λ (rest : List (ℕ × List ℕ)). rest)) left
    (λ p. All (λ (at : ℕ × WStr E order). LiesAt whole at.0 at.1) p.items)
