-- The parts of a text that is split at ascending ends.
use Rattle.std.proofs.Common.{◌≡◌, ℕ, zero, suc, ◌<◌, ◌≤◌, List, [], ◌∷◌, ◌++◌, None, Some, slice_get, get_or, length, refl, ap, ap₂, sym, ◌∙◌, subst, arith}
use Rattle.std.proofs.lemmas.Option.{slice_get-get_or, slice_get_past}
use Rattle.utf16_units.specs.Boundary.{IsBoundary, text_between}
use Rattle.utf16_units.specs.Encoding.{size}
use Rattle.utf16_units.specs.Parts.{AreEnds, AreEndsFrom, parts_from, parts_of}
use Rattle.utf16_units.proofs.BoundaryLemmas.{IsBoundary-end, IsBoundary-start}
use Rattle.utf16_units.proofs.EncodingLemmas.{size-append, size-nil}
use Rattle.utf16_units.proofs.PartLemmas.{IsBoundary-append, text_between-append, text_between-behind}

pub length-parts : (text : List ℕ) (start : ℕ) (ends : List ℕ) → length (parts_from text start ends) ≡ length ends
unfolding parts_from
length-parts text start [] = refl
length-parts text start (end ∷ ends) = ap suc (length-parts text end ends)

-- the window of a part
window : (text : List ℕ) (start : ℕ) (ends : List ℕ) (n : ℕ) → IsBoundary text start → AreEndsFrom text start ends → n < length ends
    → (get_or (start ∷ ends) n 0 ≤ get_or ends n 0) × IsBoundary text (get_or (start ∷ ends) n 0) × IsBoundary text (get_or ends n 0)
unfolding AreEndsFrom
window text start [] n begins are within = absurd (omega arith)
window text start (end ∷ ends) zero begins are within = (are.0, begins, are.1)
window text start (end ∷ ends) (suc n) begins are within = window text end ends n are.1 are.2 (omega arith)

part : (text : List ℕ) (start : ℕ) (ends : List ℕ) (n : ℕ) → n < length ends
    → text_between text (get_or (start ∷ ends) n 0) (get_or ends n 0) ≡ get_or (parts_from text start ends) n []
unfolding parts_from
part text start [] n within = absurd (omega arith)
part text start (end ∷ ends) zero within = refl
part text start (end ∷ ends) (suc n) within = part text end ends n (omega arith)

pub part_window : (text ends : List ℕ) (n start : ℕ) → AreEnds text ends → n < length ends → start ≡ get_or (0 ∷ ends) n 0
    → (start ≤ get_or ends n 0) × IsBoundary text start × IsBoundary text (get_or ends n 0)
part_window text ends n start are within is =
    subst (λ s. (s ≤ get_or ends n 0) × IsBoundary text s × IsBoundary text (get_or ends n 0)) (sym is)
    (window text 0 ends n (IsBoundary-start text) are.ascend within)

pub part_at : (text ends : List ℕ) (n start : ℕ) (cut : List ℕ) → n < length ends → start ≡ get_or (0 ∷ ends) n 0
    → cut ≡ text_between text start (get_or ends n 0) → slice_get (parts_of text ends) n ≡ Some cut
part_at text ends n start cut within is cut_is =
    slice_get-get_or (parts_of text ends) n [] (omega (arith, length-parts text 0 ends))
    ∙ ap Some (sym (cut_is ∙ ap (λ s. text_between text s (get_or ends n 0)) is ∙ part text 0 ends n within))

pub no_part : (text ends : List ℕ) (n : ℕ) → length ends ≤ n → slice_get (parts_of text ends) n ≡ None
no_part text ends n past = slice_get_past (parts_of text ends) n (omega (arith, length-parts text 0 ends))

pub parts_none : (text : List ℕ) → parts_of text [] ≡ []
unfolding parts_from
parts_none text = refl

pub ends_none : AreEnds [] []
unfolding AreEndsFrom
ends_none = record { ascend = sym size-nil }

-- with one more part, appended to the text
ends_more : (text more : List ℕ) (start : ℕ) (ends : List ℕ) → AreEndsFrom text start ends → AreEndsFrom (text ++ more) start (ends ++ size (text ++ more) ∷ [])
unfolding AreEndsFrom
ends_more text more start [] are = (omega (arith, are, size-append text more), IsBoundary-end (text ++ more), refl)
ends_more text more start (end ∷ ends) are = (are.0, IsBoundary-append text more end are.1, ends_more text more end ends are.2)

pub ends_push : (text more ends : List ℕ) → AreEnds text ends → AreEnds (text ++ more) (ends ++ size (text ++ more) ∷ [])
ends_push text more ends are = record { ascend = ends_more text more 0 ends are.ascend }

parts_more : (text more : List ℕ) (start : ℕ) (ends : List ℕ) → IsBoundary text start → AreEndsFrom text start ends
    → parts_from (text ++ more) start (ends ++ size (text ++ more) ∷ []) ≡ parts_from text start ends ++ more ∷ []
unfolding parts_from AreEndsFrom
parts_more text more start [] begins are =
    ap₂ (λ i j. text_between (text ++ more) i j ∷ []) are (size-append text more) ∙ ap (λ t. t ∷ []) (text_between-behind text more)
parts_more text more start (end ∷ ends) begins are =
    ap₂ (λ t ts. t ∷ ts) (text_between-append text more start end are.0 begins are.1) (parts_more text more end ends are.1 are.2)

pub parts_push : (text more ends : List ℕ) → AreEnds text ends → parts_of (text ++ more) (ends ++ size (text ++ more) ∷ []) ≡ parts_of text ends ++ more ∷ []
parts_push text more ends are = parts_more text more 0 ends (IsBoundary-start text) are.ascend
