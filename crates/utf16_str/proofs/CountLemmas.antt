-- How many substrings there are between occurrences of any part, and that none has it.
use Rattle.std.proofs.Common.{◌≡◌, ℕ, ◌+◌, Bool, true, false, eqb, List, [], ◌∷◌, length, length-append, map, reverse, ap, ◌∙◌, arith}
use Rattle.std.proofs.lemmas.List.{length-map, length-reverse}
use Rattle.std.proofs.lemmas.List.Sums.{count_by-le-length}
use Rattle.std.proofs.lemmas.List.Splits.{length-slice_split}
use Rattle.std.specs.List.{slice_split}
use Rattle.utf16_units.proofs.PartsEnded.{parts_lack}
use Rattle.utf16_str.specs.Substrings.{EachLacks, parts_between, parts_from, parts_toward, rparts_from, single_chars}
use Rattle.utf16_str.proofs.PartAbsent.{absent-between}
use Rattle.utf16_str.proofs.PartCounts.{Counted, count-between}

pub each_lacks : (part text : List ℕ) → EachLacks part (parts_from part false text)
each_lacks [] text = tt
each_lacks (c ∷ []) text = parts_lack c text
each_lacks (c ∷ d ∷ part) text = absent-between c (d ∷ part) 0 text

length-single : (text : List ℕ) → length (single_chars text) ≡ length text + 1
length-single text = length-append (map (λ c. c ∷ []) text) ([] ∷ []) ∙ ap (λ n. n + 1) (length-map text (λ c. c ∷ []))

pub count-parts : (part : List ℕ) (begun : Bool) (text : List ℕ) → Counted (length text + 2) (parts_from part begun text)
count-parts [] true text = (omega (arith, length-single text), omega (arith, length-single text))
count-parts [] false text = (omega arith, omega (arith, length-single text))
count-parts (c ∷ []) begun text =
    let few = length-slice_split (λ d. eqb d c) text in
    (omega (arith, few), omega (arith, few, count_by-le-length (λ d. eqb d c) text))
count-parts (c ∷ d ∷ part) begun text =
    let few = count-between (c ∷ d ∷ part) 0 text in
    (few.0, omega (arith, few.1))

short : (text : List ℕ) (parts : List (List ℕ)) → Counted (length (reverse text) + 2) parts → Counted (length text + 2) (map reverse parts)
short text parts few =
    let long = length-map parts reverse in
    (omega (arith, long, few.0), omega (arith, long, few.1, length-reverse text))

pub count-rparts : (part : List ℕ) (begun : Bool) (text : List ℕ) → Counted (length text + 2) (rparts_from part begun text)
count-rparts [] begun text = short text (parts_from [] begun (reverse text)) (count-parts [] begun (reverse text))
count-rparts (c ∷ []) begun text =
    let few = count-parts (c ∷ []) begun text in
    let long = length-reverse (slice_split (λ d. eqb d c) text) in
    (omega (arith, long, few.0), omega (arith, long, few.1))
count-rparts (c ∷ d ∷ part) begun text =
    let whole = reverse (c ∷ d ∷ part) in
    let few = count-between whole 0 (reverse text) in
    short text (parts_between whole 0 (reverse text)) (few.0, omega (arith, few.1))

pub count-toward : (back : Bool) (part : List ℕ) (begun : Bool) (text : List ℕ) → Counted (length text + 2) (parts_toward back part begun text)
count-toward false part begun text = count-parts part begun text
count-toward true part begun text = count-rparts part begun text
