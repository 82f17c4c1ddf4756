use Rattle.std.proofs.Common.{◌≡◌, ◌+◌, ◌≤◌, ◌++◌, List, ℕ, length, take, drop, ap, ap₂, sym, ◌∙◌, append_assoc, arith, rules}
use Rattle.std.proofs.lemmas.List.{drop-append-le, take-append-le}
use Rattle.std.specs.List.{splice}
use Rattle.utf16_units.proofs.BoundaryLemmas.{IsBoundary-within}
use Rattle.utf16_units.proofs.EncodingLemmas.{IsUtf16-from_is_utf16, length-text}
use Rattle.utf16string.specs.WStr.{wstr_bytes}
use Rattle.uses_strings.proofs.edits.overwrite_valid_prefix.Goals as goal

-- overwriting in a prefix leaves the rest unchanged
splice-front : (xs ys part : List ℕ) (i j : ℕ) → i ≤ j → j ≤ length xs → splice xs i j part ++ ys ≡ splice (xs ++ ys) i j part
splice-front xs ys part i j order within =
    append_assoc (take i xs) (part ++ drop j xs) ys ∙ ap (λ t. take i xs ++ t) (append_assoc part (drop j xs) ys)
    ∙ ap₂ (λ front back. front ++ (part ++ back)) (sym (take-append-le i xs ys (omega arith))) (sym (drop-append-le j xs ys within))

pub returns-then-fits-clause-over : goal.returns-then-fits-clause-over
returns-then-fits-clause-over g c fits =
    let front = c.split_valid-front.result.0.now in
    let rest = c.split_valid-front.result.1.now in
    let part = wstr_bytes c.args.part in
    let end = c.args.idx + length part in
    let view = c.from_utf16_unchecked-view in
    let within : end ≤ length front = omega (
      arith,
      IsBoundary-within _ _ (c.fits-fits.ensures.0 fits).1,
      ap length view.ensures.bytes,
      length-text _ _ (IsUtf16-from_is_utf16 _ _ view.result.well_formed),
      length-text _ _ (IsUtf16-from_is_utf16 _ _ c.args.part.well_formed),
    ) in
    ap (λ f. f ++ rest) (search rules) ∙ splice-front front rest part c.args.idx end (omega arith) within
    ∙ ap (λ b. splice b c.args.idx end part) (sym c.split_valid-front.ensures.joined)
