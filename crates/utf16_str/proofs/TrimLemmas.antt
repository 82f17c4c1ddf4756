-- White space at the ends of a text.
use Rattle.std.proofs.Common.{◌≡◌, ℕ, All, Bool, true, false, cond, ◌&&◌, eqb, List, [], ◌∷◌, ◌++◌, length, refl, sym, ap, ◌∙◌, arith, append-nil, append_assoc}
use Rattle.std.proofs.lemmas.List.Elements.{All-head, All-tail}
use Rattle.std.specs.Char.{is_whitespace}
use Rattle.std.specs.Str.{drop_trailing_whitespace, skip_leading_whitespace}
use Rattle.utf16_str.specs.Predicates.{IsTrimmedEndWith, IsTrimmedStartWith}

abbrev SaysIsWhite : ℕ → Bool → Type 0
SaysIsWhite c b = b ≡ is_whitespace c

abbrev AllWhite : List ℕ → Type 0
AllWhite text = All (λ c. SaysIsWhite c true) text

-- ---- at the start
skip-front : (front rest : List ℕ) → AllWhite front → skip_leading_whitespace (front ++ rest) ≡ skip_leading_whitespace rest
skip-front [] rest all = refl
skip-front (c ∷ front) rest all =
    ap (λ b. cond b (skip_leading_whitespace (front ++ rest)) (c ∷ (front ++ rest))) (sym (All-head (λ d. SaysIsWhite d true) c front all))
    ∙ skip-front front rest (All-tail (λ d. SaysIsWhite d true) c front all)

skip-none : (rest : List ℕ) → ((c : ℕ) (more : List ℕ) → rest ≡ c ∷ more → SaysIsWhite c false) → skip_leading_whitespace rest ≡ rest
skip-none [] stops = refl
skip-none (c ∷ rest) stops = ap (λ b. cond b (skip_leading_whitespace rest) (c ∷ rest)) (sym (stops c rest refl))

pub trimmed-start : (text rest : List ℕ) → IsTrimmedStartWith SaysIsWhite text rest → rest ≡ skip_leading_whitespace text
trimmed-start text rest start =
    sym (ap skip_leading_whitespace start.split ∙ skip-front start.front rest start.trimmed ∙ skip-none rest start.stops)

-- ---- at the end
drop-white : (front : List ℕ) (c : ℕ) → is_whitespace c ≡ true → drop_trailing_whitespace (front ++ c ∷ []) ≡ drop_trailing_whitespace front
drop-white [] c white = ap (λ b. cond (b && eqb 0 0) [] (c ∷ [])) white
drop-white (d ∷ front) c white = ap (λ t. cond (is_whitespace d && eqb (length t) 0) [] (d ∷ t)) (drop-white front c white)

drop-back : (rest back : List ℕ) → AllWhite back → drop_trailing_whitespace (rest ++ back) ≡ drop_trailing_whitespace rest
drop-back rest [] all = ap drop_trailing_whitespace (append-nil rest)
drop-back rest (c ∷ back) all =
    ap drop_trailing_whitespace (sym (append_assoc rest (c ∷ []) back))
    ∙ drop-back (rest ++ c ∷ []) back (All-tail (λ d. SaysIsWhite d true) c back all)
    ∙ drop-white rest c (sym (All-head (λ d. SaysIsWhite d true) c back all))

-- a character before others that are left is left too
stays : (white : Bool) (c d : ℕ) (rest left : List ℕ) → left ≡ d ∷ rest → cond (white && eqb (length left) 0) [] (c ∷ left) ≡ c ∷ (d ∷ rest)
stays false c d rest left e = ap (λ t. c ∷ t) e
stays true c d rest left e =
    let some : eqb (length left) 0 ≡ false = let n = ap length e in grind arith in
    ap (λ b. cond b [] (c ∷ left)) some ∙ ap (λ t. c ∷ t) e

drop-none : (rest : List ℕ) → ((front : List ℕ) (c : ℕ) → rest ≡ front ++ c ∷ [] → SaysIsWhite c false) → drop_trailing_whitespace rest ≡ rest
drop-none [] stops = refl
drop-none (c ∷ []) stops = ap (λ b. cond (b && eqb 0 0) [] (c ∷ [])) (sym (stops [] c refl))
drop-none (c ∷ d ∷ rest) stops =
    stays (is_whitespace c) c d rest (drop_trailing_whitespace (d ∷ rest)) (drop-none (d ∷ rest) (λ front e is. stops (c ∷ front) e (ap (λ t. c ∷ t) is)))

pub trimmed-end : (text rest : List ℕ) → IsTrimmedEndWith SaysIsWhite text rest → rest ≡ drop_trailing_whitespace text
trimmed-end text rest end = sym (ap drop_trailing_whitespace end.split ∙ drop-back rest end.back end.trimmed ∙ drop-none rest end.stops)
