-- The U+FFFD of a lossy text: those of the bytes themselves, and one for each ill-formed sequence.
use Rattle.std.proofs.Common.{◌≡◌, ◌==◌, ℕ, suc, ◌+◌, Bool, true, false, List, [], ◌∷◌, ◌++◌, length, refl, arith}
use Rattle.std.specs.Prelude.{filter, if◌then◌else◌}
use Rattle.utf16_units.specs.Split.{Item as Utf16Item, good as utf16_good, lone_lead, lone_trail, lossy_chars, whole_lossy_chars}
use Rattle.utf8_bytes.specs.Split.{Item, good, ill, lossy_chars as utf8_lossy_chars, whole_lossy_chars as utf8_whole_lossy_chars}
use Rattle.utf16_transcode.specs.Replaced.{cut_off, good_chars, ill_items, marks, utf8_good_chars}
use Rattle.utf16_transcode.specs.Unpaired.{lone_items}

marks-cons : (c : ℕ) (text : List ℕ) → marks (c ∷ text) ≡ marks (c ∷ []) + marks text
marks-cons c text =
    let rest = filter (λ d. d == 0xFFFD) text in
    elim (c == 0xFFFD) as (λ is. length (if is then c ∷ rest else rest) ≡ length (if is then c ∷ [] else []) + length rest) [ true ↦ omega arith | false ↦ omega arith ]

marks-last : (text : List ℕ) → marks (text ++ 0xFFFD ∷ []) ≡ marks text + 1
marks-last [] = refl
marks-last (c ∷ text) = omega (arith, marks-cons c (text ++ 0xFFFD ∷ []), marks-cons c text, marks-last text)

marks-items : (items : List Utf16Item) → marks (lossy_chars items) ≡ marks (good_chars items) + lone_items items
unfolding good_chars lone_items
marks-items [] = refl
marks-items (utf16_good c ∷ items) = omega (arith, marks-cons c (lossy_chars items), marks-cons c (good_chars items), marks-items items)
marks-items (lone_trail unit ∷ items) = omega (arith, marks-cons 0xFFFD (lossy_chars items), marks-items items)
marks-items (lone_lead unit ∷ items) = omega (arith, marks-cons 0xFFFD (lossy_chars items), marks-items items)

pub marks-whole : (items : List Utf16Item) (tail : List ℕ) → marks (whole_lossy_chars items tail) ≡ marks (good_chars items) + (lone_items items + cut_off tail)
marks-whole items [] = omega (arith, marks-items items)
marks-whole items (first ∷ after) = omega (arith, marks-items items, marks-last (lossy_chars items))

utf8_marks-items : (items : List Item) → marks (utf8_lossy_chars items) ≡ marks (utf8_good_chars items) + ill_items items
unfolding utf8_good_chars ill_items
utf8_marks-items [] = refl
utf8_marks-items (good c ∷ items) = omega (arith, marks-cons c (utf8_lossy_chars items), marks-cons c (utf8_good_chars items), utf8_marks-items items)
utf8_marks-items (ill part ∷ items) = omega (arith, marks-cons 0xFFFD (utf8_lossy_chars items), utf8_marks-items items)

pub utf8_marks-whole : (items : List Item) (tail : List ℕ) → marks (utf8_whole_lossy_chars items tail) ≡ marks (utf8_good_chars items) + (ill_items items + cut_off tail)
utf8_marks-whole items [] = omega (arith, utf8_marks-items items)
utf8_marks-whole items (first ∷ after) = omega (arith, utf8_marks-items items, marks-last (utf8_lossy_chars items))
