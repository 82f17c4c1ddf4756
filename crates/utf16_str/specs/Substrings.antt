-- The substrings of a text that is split at each occurrence of a part, its lines, and its words.
use Rattle.std.specs.Prelude.{◌≡◌, ◌==◌, ℕ, zero, suc, ◌+◌, ◌-◌, ◌≤◌, ⊤, All, Bool, true, false, List, [], ◌∷◌, ◌++◌, Option, None, Some, filter, length, map, nat_eq, nat_lt, reverse, if◌then◌else◌}
use Rattle.std.specs.Char.{is_whitespace}
use Rattle.std.specs.Iterator.{YieldsFirstBy, YieldsLastBy}
use Rattle.std.specs.Iterator.Runs.{EachRunFrom, EveryRun, ItemsMapTo, ItemsMapToReversed}
use Rattle.std.specs.List.{join_by, join_with_byte, onto_first, slice_split, starts_with}
use Rattle.std.specs.Str.Lines.{lines}
use Rattle.utf16_units.specs.Delimited.{Lacks}
use Rattle.utf16_units.specs.declared.byte_order.Utf16Order.{Ghosts}
use Rattle.utf16_units.specs.Encoding.{char_size, size}
use Rattle.utf16_str.specs.Window.{IsWindowOf, window_bytes}
use Rattle.utf16_str.specs.WStr.{wstr_bytes, wstr_text}
use Rattle.utf16_str.specs.declared.wstr.WStr.{WStr}

-- ---- where a part occurs. A part of one character is said by the characters of the text

-- the part occurs nowhere in the text; the empty part occurs everywhere
abbrev pub LacksPart : List ℕ → List ℕ → Type 0
LacksPart [] text = ⊥
LacksPart (c ∷ []) text = Lacks c text
LacksPart (c ∷ d ∷ part) text = (front back : List ℕ) → ¬ (text ≡ front ++ (c ∷ d ∷ (part ++ back)))

-- the first occurrence of the part is after `front`
abbrev pub IsBeforeFirst : List ℕ → List ℕ → List ℕ → Type 0
IsBeforeFirst [] text front = front ≡ []
IsBeforeFirst (c ∷ []) text front = Lacks c front
IsBeforeFirst (c ∷ d ∷ part) text front = (other back : List ℕ) → text ≡ other ++ (c ∷ d ∷ (part ++ back)) → length front ≤ length other

-- the last occurrence of the part is before `back`
abbrev pub IsAfterLast : List ℕ → List ℕ → List ℕ → Type 0
IsAfterLast [] text back = back ≡ []
IsAfterLast (c ∷ []) text back = Lacks c back
IsAfterLast (c ∷ d ∷ part) text back = (front other : List ℕ) → text ≡ front ++ (c ∷ d ∷ (part ++ other)) → length back ≤ length other

-- ---- the substrings between occurrences

-- the substrings of a text between occurrences of a part that is not empty. An occurrence begins
-- wherever the part is, except within another one; the first `inside` characters are in one
unfoldable pub parts_between : List ℕ → ℕ → List ℕ → List (List ℕ)
parts_between part inside [] = [] ∷ []
parts_between part (suc inside) (c ∷ text) = parts_between part inside text
parts_between part zero (c ∷ text) = if starts_with nat_eq (c ∷ text) part then [] ∷ parts_between part (length part - 1) text else onto_first c (parts_between part 0 text)

-- each character of a text, and the empty substring at its end
abbrev pub single_chars : List ℕ → List (List ℕ)
single_chars text = map (λ c. c ∷ []) text ++ [] ∷ []

-- the substrings of what is left of a text, where `begun` says whether an occurrence was passed. The
-- empty part occurs at the start of a text and after each of its characters
abbrev pub parts_from : List ℕ → Bool → List ℕ → List (List ℕ)
parts_from [] begun text = if begun then single_chars text else [] ∷ single_chars text
parts_from (c ∷ []) begun text = slice_split (λ d. d == c) text
parts_from (c ∷ d ∷ part) begun text = parts_between (c ∷ d ∷ part) 0 text

-- the same from the end, the last first: an occurrence ends wherever the part is, except within
-- another one
abbrev pub rparts_from : List ℕ → Bool → List ℕ → List (List ℕ)
rparts_from [] begun text = map reverse (parts_from [] begun (reverse text))
rparts_from (c ∷ []) begun text = reverse (slice_split (λ d. d == c) text)
rparts_from (c ∷ d ∷ part) begun text = map reverse (parts_between (reverse (c ∷ d ∷ part)) 0 (reverse text))

-- what `split` and `rsplit` give
abbrev pub split_by : List ℕ → List ℕ → List (List ℕ)
split_by part text = parts_from part false text

abbrev pub rsplit_by : List ℕ → List ℕ → List (List ℕ)
rsplit_by part text = rparts_from part false text

-- the same from the start of a text, or from its end if `back` is true
abbrev pub parts_toward : Bool → List ℕ → Bool → List ℕ → List (List ℕ)
parts_toward false part begun text = parts_from part begun text
parts_toward true part begun text = rparts_from part begun text

-- the same for what is left of a text: none if nothing is left
abbrev pub parts_left : Bool → List ℕ → Bool → Option (List ℕ) → List (List ℕ)
parts_left back part begun None = []
parts_left back part begun (Some rest) = parts_toward back part begun rest

-- what is taken from the start of a text, or from its end, and what is left: as they are in it
abbrev pub in_order : Bool → List ℕ → List ℕ → List ℕ
in_order false taken left = taken ++ left
in_order true taken left = left ++ taken

-- the substrings with the part between each two
abbrev pub joined_with : List ℕ → List (List ℕ) → List ℕ
joined_with [] parts = join_by (λ text. text) [] parts
joined_with (c ∷ []) parts = join_with_byte c parts
joined_with (c ∷ d ∷ part) parts = join_by (λ text. text) (c ∷ d ∷ part) parts

abbrev pub rjoined_with : List ℕ → List (List ℕ) → List ℕ
rjoined_with part parts = joined_with part (reverse parts)

abbrev pub joined_toward : Bool → List ℕ → List (List ℕ) → List ℕ
joined_toward false part parts = joined_with part parts
joined_toward true part parts = rjoined_with part parts

-- the offsets in bytes of substrings with `gap` bytes between each two, if the first one is at `at`
abbrev pub offsets_from : ℕ → ℕ → List (List ℕ) → List ℕ
offsets_from gap at [] = []
offsets_from gap at (text ∷ texts) = at ∷ offsets_from gap (at + size text + gap) texts

-- the same, if the substrings come from the end and the first one ends at `end`
abbrev pub roffsets_from : ℕ → ℕ → List (List ℕ) → List ℕ
roffsets_from gap end [] = []
roffsets_from gap end (text ∷ texts) = (end - size text) ∷ roffsets_from gap (end - size text - gap) texts

-- no substring has the part, unless it is empty
abbrev pub EachLacks : List ℕ → List (List ℕ) → Type 0
EachLacks [] parts = ⊤
EachLacks (c ∷ part) parts = All (LacksPart (c ∷ part)) parts

-- the lines of what is left of a text: none if nothing is left
abbrev pub lines_left : Option (List ℕ) → List (List ℕ)
lines_left None = []
lines_left (Some rest) = lines rest

-- the substrings of a text split at each character that passes a test, without those that are empty
abbrev pub words_by : (ℕ → Bool) → List ℕ → List (List ℕ)
words_by p text = filter (λ word. nat_lt 0 (length word)) (slice_split p text)

-- their offsets in bytes, if the text is at `at`. Each begins at a character that fails the test and
-- is the first or follows one that passes it: `between` is false inside a substring
abbrev pub words_at : (ℕ → Bool) → Bool → ℕ → List ℕ → List ℕ
words_at p between at [] = []
words_at p true at (c ∷ text) = if p c then words_at p true (at + char_size c) text else at ∷ words_at p false (at + char_size c) text
words_at p false at (c ∷ text) = if p c then words_at p true (at + char_size c) text else words_at p false (at + char_size c) text

-- the offsets of the substrings that `words_by` gives
abbrev pub word_offsets : (ℕ → Bool) → List ℕ → List ℕ
word_offsets p text = words_at p true 0 text

-- the words of a text, as in the documentation of `str::split_whitespace`: white space is between
-- them
abbrev pub words : List ℕ → List (List ℕ)
words text = words_by is_whitespace text

-- a text is empty, or its last character has a property
abbrev pub EndsWithAny : (ℕ → Type 0) → List ℕ → Type 0
EndsWithAny P text = (front : List ℕ) (c : ℕ) → text ≡ front ++ c ∷ [] → P c

-- an iterator whose model is the list of the texts that are left yields views of them, in order;
-- the view given determines their type
abbrev pub YieldsTexts : {E : Type 0} {order : Ghosts E} → WStr E order → Type 0
YieldsTexts {E = E} {order = order} like =
    EveryRun (YieldsFirstBy (wstr_text {E = E} {order = order}) (λ (rest : List (List ℕ)). rest)) (λ p. ItemsMapTo p (wstr_text {E = E} {order = order}) p.from)

-- the same from the back
abbrev pub YieldsTextsBack : {E : Type 0} {order : Ghosts E} → WStr E order → Type 0
YieldsTextsBack {E = E} {order = order} like =
    EveryRun (YieldsLastBy (wstr_text {E = E} {order = order}) (λ (rest : List (List ℕ)). rest)) (λ p. ItemsMapToReversed p (wstr_text {E = E} {order = order}) p.from)

-- a part has the bytes of a view from an offset on, and both ends are boundaries
abbrev pub LiesAt : {E : Type 0} {order : Ghosts E} → WStr E order → ℕ → WStr E order → Type 0
LiesAt whole at part =
    IsWindowOf (wstr_text whole) (Some (at, at + length (wstr_bytes part)))
    × (wstr_bytes part ≡ window_bytes (wstr_bytes whole) (Some (at, at + length (wstr_bytes part))))

-- the parts lie at these offsets, the first at the first
abbrev pub LieAt : {E : Type 0} {order : Ghosts E} → WStr E order → List ℕ → List (WStr E order) → Type 0
LieAt whole offsets [] = ⊤
LieAt whole [] (part ∷ parts) = ⊥
LieAt whole (at ∷ offsets) (part ∷ parts) = LiesAt whole at part × LieAt whole offsets parts

-- an iterator that has these texts left yields views of the given view's bytes, each from its offset
-- on
abbrev pub YieldsPartsOf : {E : Type 0} {order : Ghosts E} → WStr E order → List ℕ → List (List ℕ) → Type 0
YieldsPartsOf {E = E} {order = order} whole offsets left =
    EachRunFrom (YieldsFirstBy (wstr_text {E = E} {order = order}) (λ (rest : List (List ℕ)). rest)) left (λ p. LieAt whole offsets p.items)

-- the same from the back
abbrev pub YieldsPartsOfBack : {E : Type 0} {order : Ghosts E} → WStr E order → List ℕ → List (List ℕ) → Type 0
YieldsPartsOfBack {E = E} {order = order} whole offsets left =
    EachRunFrom (YieldsLastBy (wstr_text {E = E} {order = order}) (λ (rest : List (List ℕ)). rest)) left (λ p. LieAt whole (reverse offsets) p.items)
