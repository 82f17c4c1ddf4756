use Rattle.std.proofs.Common.{◌≡◌, ◌≢◌, ◌∙◌, ◌++◌, ◌∷◌, [], ap, arith, refl, sym, true}
use Rattle.std.proofs.lemmas.Bool.{false≢true}
use Rattle.utf16_units.specs.Encoding.{size}
use Rattle.utf16_units.proofs.EncodingLemmas.{size-nil}
use Rattle.utf16_str.specs.Substrings.{rparts_from}
use Rattle.utf16_str.specs.WStr.{wstr_text}
use Rattle.utf16_str.proofs.AffixLemmas.{cut_between}
use Rattle.utf16_str.proofs.CutFront.{no_part}
use Rattle.utf16_str.proofs.CutBack.{rparts-char, rparts-cut, rparts-none, rparts-whole}
use Rattle.utf16_str.proofs.remaining.BackwardDirection.cut.Goals as goal
use Rattle.utf16_str.proofs.remaining.BackwardDirection.cut.Goals.{then-not-begun-via-then-not-begun, then-not-begun-via-else-not-begun+then-encoded_len-gt0}

pub returns-in_err-before-clause-parts : goal.returns-in_err-before-clause-parts
returns-in_err-before-clause-parts g c =
    rw c.from_residual.ensures (rparts-whole (g.P.Pattern.part c.args.pattern) c.args.begun (wstr_text c.args.text) (c.in_err-before.ensures.none.0 refl))

pub returns-then-not-begun-clause-parts : goal.returns-then-not-begun-clause-parts
returns-then-not-begun-clause-parts g c =
    let part = g.P.Pattern.part c.args.pattern in
    let may : c.args.begun ≡ true → part ≢ [] = elim c.then-not-begun.branch [
      | then-not-begun-via-then-not-begun w ↦ λ is. absurd (false≢true (sym w.if-not-begun.true ∙ is))
      | then-not-begun-via-else-not-begun+then-encoded_len-gt0 w ↦ λ is none. omega (arith, w.encoded_len.ensures, w.if-encoded_len-gt0.true, ap size none, size-nil)
    ] in
    rparts-cut part c.args.begun (wstr_text c.args.text) _ _ c.in_ok-before.ensures.split c.in_ok-before.ensures.last may

pub returns-then-not-begun-clause-closed : goal.returns-then-not-begun-clause-closed
returns-then-not-begun-clause-closed g c =
    c.split_at.ensures.back
    ∙ (cut_between (wstr_text c.in_ok-before.before) (g.P.Pattern.part c.args.pattern ++ wstr_text c.in_ok-before.part) _ _ c.in_ok-before.ensures.split (sym c.len.ensures.size)).from

pub returns-in_err-before-2-clause-parts : goal.returns-in_err-before-2-clause-parts
returns-in_err-before-2-clause-parts g c =
    let none = no_part (g.P.Pattern.part c.args.pattern) (omega (arith, c.encoded_len.ensures, c.if-encoded_len-gt0.false)) in
    rw c.from_residual-in_err-before-2.ensures (rparts-none _ c.args.begun none c.if-not-begun.false (wstr_text c.args.text) c.in_err-before-2.ensures)

pub returns-clause-parts : goal.returns-clause-parts
returns-clause-parts g c =
    let part = g.P.Pattern.part c.args.pattern in
    let none : part ≡ [] = no_part part (omega (arith, c.encoded_len.ensures, c.if-encoded_len-gt0.false)) in
    let before = wstr_text c.in_ok-before-2.before in
    let last = c.split_at-2.ensures.back ∙ (cut_between before (c.in_ok-before-2.field-0-0 ∷ []) _ _ c.in_ok-before-2.ensures (sym c.len-2.ensures.size)).from in
    rparts-char part c.args.begun none c.if-not-begun.false c.in_ok-before-2.field-0-0 (wstr_text c.args.text) before c.in_ok-before-2.ensures
    ∙ ap (λ t. t ∷ rparts_from part true before) (sym last)

pub returns-clause-closed : goal.returns-clause-closed
returns-clause-closed g c =
    let none = no_part (g.P.Pattern.part c.args.pattern) (omega (arith, c.encoded_len.ensures, c.if-encoded_len-gt0.false)) in
    ap (λ p. p ++ wstr_text c.split_at-2.result.1) (sym none)

pub returns-clause-joined : goal.returns-clause-joined
returns-clause-joined g c =
    let before = wstr_text c.in_ok-before-2.before in
    let last = c.split_at-2.ensures.back ∙ (cut_between before (c.in_ok-before-2.field-0-0 ∷ []) _ _ c.in_ok-before-2.ensures (sym c.len-2.ensures.size)).from in
    c.in_ok-before-2.ensures ∙ ap (λ t. before ++ t) (sym last)
