-- What the offset of the first or the last occurrence says of the characters around it.
use Rattle.std.proofs.Common.{◌≡◌, ℕ, zero, suc, ◌+◌, ◌<◌, ◌≤◌, List, [], ◌∷◌, ◌++◌, Some, None, length, length-append, refl, sym, ap, ◌∙◌, subst, arith, append_assoc, append-nil}
use Rattle.utf16_units.specs.Boundary.{OccursIn, text_from, text_to}
use Rattle.utf16_units.specs.Encoding.{char_size, size}
use Rattle.utf16_units.proofs.BoundaryLemmas.{IsBoundary-within, char_size-pos, size-text_to, text_to-at}
use Rattle.utf16_units.proofs.DelimitedLemmas.{text_from-whole}
use Rattle.utf16_units.proofs.EncodingLemmas.{size-cons, size-nil}
use Rattle.utf16_bytes.specs.Occurrence.{IsFirst, IsLast}
use Rattle.utf16_bytes.proofs.OccurrenceLemmas.{text_around}
use Rattle.utf16_bytes.proofs.PatternLemmas.{between_parts}
use Rattle.utf16_str.specs.Substrings.{IsAfterLast, IsBeforeFirst, LacksPart}
use Rattle.utf16_str.proofs.CharSearch.{lacks-not, lacks_after, lacks_all, lacks_before}

-- of two beginnings of a text, the one of the lesser size has fewer characters
fewer : (front rest other more : List ℕ) → front ++ rest ≡ other ++ more → size front ≤ size other → length front ≤ length other
fewer [] rest other more e less = omega arith
fewer (c ∷ front) rest [] more e less = absurd (omega (arith, less, size-cons c front, char_size-pos c, size-nil))
fewer (c ∷ front) rest (d ∷ other) more e less =
    let same : c ≡ d = cc in
    let tails : front ++ rest ≡ other ++ more = cc in
    omega (arith, fewer front rest other more tails (omega (arith, less, size-cons c front, size-cons d other, ap char_size same)))

-- and more characters after it
fewer_after : (front rest other more : List ℕ) → front ++ rest ≡ other ++ more → size front ≤ size other → length more ≤ length rest
fewer_after front rest other more e less =
    omega (arith, fewer front rest other more e less, ap length e, length-append front rest, length-append other more)

-- the empty part occurs at the start and at the end
at_start : (text : List ℕ) → OccursIn text 0 []
at_start text = subst (λ i. OccursIn text i []) size-nil (between_parts text [] [] text refl)

at_end : (text : List ℕ) → OccursIn text (size text) []
at_end text = between_parts text text [] [] (sym (append-nil (text ++ []) ∙ append-nil text))

start_is : (text : List ℕ) (at : ℕ) → (0 < at → ⊥) → text_to text at ≡ []
start_is text zero none = text_to-at [] text 0 size-nil
start_is text (suc at) none = absurd (none (omega arith))

pub before_first : (part text : List ℕ) (at : ℕ) → IsFirst (λ i. OccursIn text i part) (Some at) → IsBeforeFirst part text (text_to text at)
before_first [] text at found = start_is text at (λ later. found.1 0 later (at_start text))
before_first (c ∷ []) text at found = lacks_before text c at found
before_first (c ∷ d ∷ part) text at found = λ other back e.
    let whole = c ∷ d ∷ part in
    let not_sooner : size other < at → ⊥ = λ less. found.1 (size other) less (between_parts text other whole back (e ∙ sym (append_assoc other whole back))) in
    let later : at ≤ size other = omega (arith, not_sooner) in
    fewer (text_to text at) (whole ++ text_from text (at + size whole)) other (whole ++ back) (sym (text_around text whole at found.0 ∙ append_assoc (text_to text at) whole (text_from text (at + size whole))) ∙ e)
    (omega (arith, size-text_to text at found.0.start, later))

pub after_last : (part text : List ℕ) (at : ℕ) → IsLast (λ i. OccursIn text i part) (Some at) → IsAfterLast part text (text_from text (at + size part))
after_last [] text at found =
    let not_sooner : at < size text → ⊥ = λ less. found.1 (size text) less (at_end text) in
    let later : size text ≤ at = omega (arith, not_sooner) in
    let end : at + size [] ≡ size text = omega (arith, later, size-nil, IsBoundary-within text at found.0.start) in
    ap (text_from text) end ∙ text_from-whole text
after_last (c ∷ []) text at found =
    let one : at + size (c ∷ []) ≡ at + char_size c = omega (arith, size-cons c [], size-nil) in
    subst (IsAfterLast (c ∷ []) text) (ap (text_from text) (sym one)) (lacks_after text c at found)
after_last (c ∷ d ∷ part) text at found = λ front other e.
    let whole = c ∷ d ∷ part in
    let not_later : at < size front → ⊥ = λ less. found.1 (size front) less (between_parts text front whole other (e ∙ sym (append_assoc front whole other))) in
    let sooner : size front ≤ at = omega (arith, not_later) in
    let back = text_from text (at + size whole) in
    let longer : length (whole ++ back) ≤ length (whole ++ other) =
    fewer_after front (whole ++ other) (text_to text at) (whole ++ back) (sym e ∙ text_around text whole at found.0 ∙ append_assoc (text_to text at) whole back) (omega (arith, size-text_to text at found.0.start, sooner)) in
    omega (arith, longer, length-append whole back, length-append whole other)

-- a part that occurs nowhere, and one that does
pub lacks_part : (part text : List ℕ) → IsFirst (λ i. OccursIn text i part) None → LacksPart part text
lacks_part [] text none = none 0 (at_start text)
lacks_part (c ∷ []) text none = lacks_all text c none
lacks_part (c ∷ d ∷ part) text none = λ front back e. none (size front) (between_parts text front (c ∷ d ∷ part) back (e ∙ sym (append_assoc front (c ∷ d ∷ part) back)))

pub lacks_part-not : (part text front back : List ℕ) → text ≡ front ++ (part ++ back) → LacksPart part text → ⊥
lacks_part-not [] text front back is lacks = lacks
lacks_part-not (c ∷ []) text front back is lacks = lacks-not c text front back is lacks
lacks_part-not (c ∷ d ∷ part) text front back is lacks = lacks front back is
