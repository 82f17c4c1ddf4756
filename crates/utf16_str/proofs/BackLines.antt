-- The lines of a text, one by one from the end.
use Rattle.std.proofs.Common.{◌≡◌, ◌≢◌, ℕ, ◌<◌, Bool, eqb, List, [], ◌∷◌, ◌++◌, length, length-append, map, refl, sym, ap, ◌∙◌, arith, append_assoc, append-nil}
use Rattle.std.specs.List.{slice_split}
use Rattle.std.specs.Str.Lines.{lines, lines_of_parts, strip_carriage_return}
use Rattle.utf16_units.specs.Delimited.{Lacks}
use Rattle.utf16_str.specs.Substrings.{EndsWithAny}
use Rattle.utf16_str.proofs.AroundLemmas.{last_of}
use Rattle.utf16_str.proofs.PredicateAround.{some-parts, split-around}
use Rattle.utf16_str.proofs.LineLemmas.{lines-first, lines-last, lines_of_parts-cons}

lines-append : (parts more : List (List ℕ)) → 0 < length more → lines_of_parts (parts ++ more) ≡ map strip_carriage_return parts ++ lines_of_parts more
lines-append [] more some = refl
lines-append (part ∷ parts) more some =
    lines_of_parts-cons part (parts ++ more) (omega (arith, some, length-append parts more)) ∙ ap (λ ls. strip_carriage_return part ∷ ls) (lines-append parts more some)

abbrev newline : ℕ → Bool
newline c = eqb c 10

lines-around : (front back : List ℕ) → lines (front ++ 10 ∷ back) ≡ map strip_carriage_return (slice_split newline front) ++ lines back
lines-around front back =
    ap lines_of_parts (split-around newline front 10 back refl) ∙ lines-append (slice_split newline front) (slice_split newline back) (some-parts newline back)

-- the lines of a text that ends with a newline, and of what follows it
lines-ended : (before text front : List ℕ) → before ≡ front ++ 10 ∷ [] → lines (before ++ text) ≡ lines before ++ lines text
lines-ended before text front is =
    let parts = map strip_carriage_return (slice_split newline front) in
    ap (λ b. lines (b ++ text)) is ∙ ap lines (append_assoc front (10 ∷ []) text) ∙ lines-around front text
    ∙ ap (λ ls. ls ++ lines text) (sym (append-nil parts) ∙ sym (lines-around front []) ∙ sym (ap lines is))

pub lines-behind : (before text : List ℕ) → EndsWithAny (λ c. c ≡ 10) before → lines (before ++ text) ≡ lines before ++ lines text
lines-behind [] text ended = refl
lines-behind (c ∷ before) text ended =
    let last = last_of (c ∷ before) (λ none. absurd cc) in
    lines-ended (c ∷ before) text last.front (last.split ∙ ap (λ d. last.front ++ d ∷ []) (ended last.front last.last last.split))

-- without a last line nothing is left
pub lines-none : (text before line : List ℕ) → text ≡ before ++ line → EndsWithAny (λ c. c ≡ 10) before → line ≡ [] → ((front : List ℕ) → ¬ (text ≡ front ++ 10 ∷ [])) → (text ≡ []) × (before ≡ [])
lines-none text [] line is ended none unended = (is ∙ none, refl)
lines-none text (c ∷ before) line is ended none unended =
    let last = last_of (c ∷ before) (λ nil. absurd cc) in
    let whole : text ≡ c ∷ before = is ∙ ap (λ t. (c ∷ before) ++ t) none ∙ append-nil (c ∷ before) in
    absurd (unended last.front (whole ∙ last.split ∙ ap (λ d. last.front ++ d ∷ []) (ended last.front last.last last.split)))

-- the last line, without a newline after it and with one
pub lines-rest : (text before line : List ℕ) → text ≡ before ++ line → EndsWithAny (λ c. c ≡ 10) before → Lacks 10 line → line ≢ [] → lines text ≡ lines before ++ line ∷ []
lines-rest text before line is ended lacks some =
    ap lines is ∙ lines-behind before line ended ∙ ap (λ ls. lines before ++ ls) (lines-last line lacks some)

pub lines-closed : (text closed before line : List ℕ) → text ≡ closed ++ 10 ∷ [] → closed ≡ before ++ line → EndsWithAny (λ c. c ≡ 10) before → Lacks 10 line
    → lines text ≡ lines before ++ strip_carriage_return line ∷ []
lines-closed text closed before line is split ended lacks =
    ap lines (is ∙ ap (λ t. t ++ 10 ∷ []) split ∙ append_assoc before line (10 ∷ []))
    ∙ lines-behind before (line ++ 10 ∷ []) ended
    ∙ ap (λ ls. lines before ++ ls) (lines-first (line ++ 10 ∷ []) line [] refl lacks)
