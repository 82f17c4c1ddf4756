-- The lines of a text, one by one.
use Rattle.std.proofs.Common.{◌≡◌, ◌≢◌, ◌↔◌, ℕ, suc, ◌-◌, ◌<◌, ◌≤◌, Bool, true, false, cond, eqb, List, [], ◌∷◌, ◌++◌, Option, None, Some, IfSome, length, take, drop, get_or, refl, sym, ap, ◌∙◌, arith, eqb-true, eq-eqb, length-append}
use Rattle.std.proofs.Math.Seq.{drop-length, get_or-append_seam, split_at, take-append_seam}
use Rattle.std.proofs.lemmas.Bool.{false≢true}
use Rattle.std.proofs.lemmas.List.Splits.{length-slice_split}
use Rattle.std.specs.List.{slice_split}
use Rattle.std.specs.Option.{IsSome, unwrap_or}
use Rattle.std.specs.Str.Lines.{lines, lines_of_parts, strip_carriage_return}
use Rattle.utf16_units.specs.Delimited.{Lacks}
use Rattle.utf16_units.proofs.DelimitedLemmas.{parts-first, parts-last}

-- ---- the carriage return at the end of a line
last_index : (front : List ℕ) → length (front ++ 13 ∷ []) - 1 ≡ length front
last_index front = omega (arith, length-append front (13 ∷ []))

pub strip-ended : (front : List ℕ) → strip_carriage_return (front ++ 13 ∷ []) ≡ front
strip-ended front =
    let line = front ++ 13 ∷ [] in
    let last : get_or line (length line - 1) 0 ≡ 13 = ap (λ i. get_or line i 0) (last_index front) ∙ get_or-append_seam front 13 [] 0 in
    ap (λ b. cond b (take (length line - 1) line) line) (eq-eqb (get_or line (length line - 1) 0) 13 last)
    ∙ ap (λ i. take i line) (last_index front) ∙ take-append_seam front (13 ∷ [])

-- a line whose last character is a carriage return ends with it
ends : (line : List ℕ) → get_or line (length line - 1) 0 ≡ 13 → line ≡ take (length line - 1) line ++ 13 ∷ []
ends [] last = absurd (omega (arith, last))
ends (c ∷ line) last =
    let whole = c ∷ line in
    let i = length whole - 1 in
    let next : suc i ≡ length whole = omega arith in
    split_at whole i 0 (omega arith) ∙ ap (λ x. take i whole ++ x ∷ drop (suc i) whole) last
    ∙ ap (λ t. take i whole ++ 13 ∷ t) (ap (λ n. drop n whole) next ∙ drop-length whole)

unended : (line : List ℕ) (ended : Bool) → ended ≡ eqb (get_or line (length line - 1) 0) 13 → ((front : List ℕ) → line ≢ front ++ 13 ∷ []) → cond ended (take (length line - 1) line) line ≡ line
unended line true is other = absurd (other (take (length line - 1) line) (ends line (eqb-true (get_or line (length line - 1) 0) 13 (sym is))))
unended line false is other = refl

pub strip-other : (line : List ℕ) → ((front : List ℕ) → line ≢ front ++ 13 ∷ []) → strip_carriage_return line ≡ line
strip-other line other = unended line (eqb (get_or line (length line - 1) 0) 13) refl other

-- what is left of a line, if it ends so, and otherwise the line
pub strip-or : {A : Type 0} (v : A → List ℕ) (left : Option A) (line : A) → (IsSome left ↔ ((front : List ℕ) × (v line ≡ front ++ 13 ∷ [])))
    → IfSome left (λ x. v line ≡ v x ++ 13 ∷ []) → v (unwrap_or left line) ≡ strip_carriage_return (v line)
strip-or v None line some text = sym (strip-other (v line) (λ front e. false≢true (some.1 (front, e))))
strip-or v (Some x) line some text = sym (ap strip_carriage_return text ∙ strip-ended (v x))

-- ---- the first line, and the last one
pub lines_of_parts-cons : (part : List ℕ) (parts : List (List ℕ)) → 0 < length parts → lines_of_parts (part ∷ parts) ≡ strip_carriage_return part ∷ lines_of_parts parts
lines_of_parts-cons part [] some = absurd (omega arith)
lines_of_parts-cons part (next ∷ parts) some = refl

pub lines-first : (text line after : List ℕ) → text ≡ line ++ 10 ∷ after → Lacks 10 line → lines text ≡ strip_carriage_return line ∷ lines after
lines-first text line after is lacks =
    let parts = slice_split (λ c. eqb c 10) after in
    ap lines_of_parts (parts-first 10 text line after is lacks)
    ∙ lines_of_parts-cons line parts (omega (arith, length-slice_split (λ c. eqb c 10) after))

pub lines-last : (text : List ℕ) → Lacks 10 text → text ≢ [] → lines text ≡ text ∷ []
lines-last [] lacks some = absurd (some refl)
lines-last (c ∷ text) lacks some =
    let filled : eqb (length (c ∷ text)) 0 ≡ false = grind arith in
    ap lines_of_parts (parts-last 10 (c ∷ text) lacks) ∙ ap (λ b. cond b [] ((c ∷ text) ∷ [])) filled

pub lines-nil : (text : List ℕ) → text ≡ [] → lines text ≡ []
lines-nil text none = ap lines none

-- there are at most as many lines as parts
pub length-lines_of_parts : (parts : List (List ℕ)) → length (lines_of_parts parts) ≤ length parts
length-lines_of_parts [] = omega arith
length-lines_of_parts (part ∷ []) = at_end (eqb (length part) 0) part where
  at_end : (none : Bool) (part : List ℕ) → length (cond none [] (part ∷ [])) ≤ 1
  at_end true part = omega arith
  at_end false part = omega arith
length-lines_of_parts (part ∷ next ∷ parts) = omega (arith, length-lines_of_parts (next ∷ parts))
