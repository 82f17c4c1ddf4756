use Rattle.std.proofs.Common.{◌≡◌, ◌≢◌, ◌∙◌, ◌-◌, ◌++◌, ◌∷◌, [], List, ℕ, ap, append_assoc, append-nil, arith, refl, sym, true}
use Rattle.std.proofs.lemmas.Bool.{false≢true}
use Rattle.utf16_units.specs.Encoding.{size}
use Rattle.utf16_units.proofs.EncodingLemmas.{size-append, size-nil}
use Rattle.utf16_str.specs.Substrings.{parts_from}
use Rattle.utf16_str.specs.WStr.{wstr_text}
use Rattle.utf16_str.proofs.AffixLemmas.{IsCutBetween, cut_between}
use Rattle.utf16_str.proofs.CutFront.{no_part, parts-char, parts-cut, parts-none, parts-whole}
use Rattle.utf16_str.proofs.remaining.ForwardDirection.cut.Goals as goal
use Rattle.utf16_str.proofs.remaining.ForwardDirection.cut.Goals.{then-not-begun-via-then-not-begun, then-not-begun-via-else-not-begun+then-encoded_len-gt0}

-- a text before the text after an occurrence. For the empty pattern `part` is one character
up_to : (part pattern after text : List ℕ) (whole rest : ℕ) → text ≡ part ++ (pattern ++ after) → whole ≡ size text → rest ≡ size after
    → IsCutBetween (part ++ pattern) after text (whole - rest)
up_to part pattern after text whole rest is w r =
    let split : text ≡ (part ++ pattern) ++ after = is ∙ sym (append_assoc part pattern after) in
    cut_between (part ++ pattern) after text (whole - rest) split (omega (arith, w, r, ap size split, size-append (part ++ pattern) after))

pub returns-in_err-part-clause-parts : goal.returns-in_err-part-clause-parts
returns-in_err-part-clause-parts g c =
    rw c.from_residual.ensures (parts-whole (g.P.Pattern.part c.args.pattern) c.args.begun (wstr_text c.args.text) (c.in_err-part.ensures.none.0 refl))

pub split_at-requires : goal.split_at-requires
split_at-requires g c =
    (up_to (wstr_text c.in_ok-part.part) (g.P.Pattern.part c.args.pattern) (wstr_text c.in_ok-part.after) _ _ _ c.in_ok-part.ensures.split c.len.ensures.size c.len-then-not-begun.ensures.size).boundary

pub returns-then-not-begun-clause-parts : goal.returns-then-not-begun-clause-parts
returns-then-not-begun-clause-parts g c =
    let part = g.P.Pattern.part c.args.pattern in
    let may : c.args.begun ≡ true → part ≢ [] = elim c.then-not-begun.branch [
      | then-not-begun-via-then-not-begun w ↦ λ is. absurd (false≢true (sym w.if-not-begun.true ∙ is))
      | then-not-begun-via-else-not-begun+then-encoded_len-gt0 w ↦ λ is none. omega (arith, w.encoded_len.ensures, w.if-encoded_len-gt0.true, ap size none, size-nil)
    ] in
    parts-cut part c.args.begun (wstr_text c.args.text) _ _ c.in_ok-part.ensures.split c.in_ok-part.ensures.first may

pub returns-then-not-begun-clause-closed : goal.returns-then-not-begun-clause-closed
returns-then-not-begun-clause-closed g c =
    c.split_at.ensures.front
    ∙ (up_to (wstr_text c.in_ok-part.part) (g.P.Pattern.part c.args.pattern) (wstr_text c.in_ok-part.after) _ _ _ c.in_ok-part.ensures.split c.len.ensures.size c.len-then-not-begun.ensures.size).to

pub returns-in_err-after-clause-parts : goal.returns-in_err-after-clause-parts
returns-in_err-after-clause-parts g c =
    let none = no_part (g.P.Pattern.part c.args.pattern) (omega (arith, c.encoded_len.ensures, c.if-encoded_len-gt0.false)) in
    rw c.from_residual-in_err-after.ensures (parts-none _ c.args.begun none c.if-not-begun.false (wstr_text c.args.text) c.in_err-after.ensures)

pub overflow_sub-len-2 : goal.overflow_sub-len-2
overflow_sub-len-2 g c =
    omega (arith, c.len-2.ensures.size, c.len-3.ensures.size, ap size c.in_ok-after.ensures, size-append (c.in_ok-after.field-0-0 ∷ []) (wstr_text c.in_ok-after.after))

pub split_at-requires-2 : goal.split_at-requires-2
split_at-requires-2 g c =
    (up_to (c.in_ok-after.field-0-0 ∷ []) [] (wstr_text c.in_ok-after.after) _ _ _ c.in_ok-after.ensures c.len-2.ensures.size c.len-3.ensures.size).boundary

pub returns-clause-parts : goal.returns-clause-parts
returns-clause-parts g c =
    let part = g.P.Pattern.part c.args.pattern in
    let none : part ≡ [] = no_part part (omega (arith, c.encoded_len.ensures, c.if-encoded_len-gt0.false)) in
    let after = wstr_text c.in_ok-after.after in
    let first = c.split_at-2.ensures.front ∙ (up_to (c.in_ok-after.field-0-0 ∷ []) [] after _ _ _ c.in_ok-after.ensures c.len-2.ensures.size c.len-3.ensures.size).to in
    parts-char part c.args.begun none c.if-not-begun.false c.in_ok-after.field-0-0 (wstr_text c.args.text) after c.in_ok-after.ensures
    ∙ ap (λ t. t ∷ parts_from part true after) (sym first)

pub returns-clause-closed : goal.returns-clause-closed
returns-clause-closed g c =
    let first = wstr_text c.split_at-2.result.0 in
    let none = no_part (g.P.Pattern.part c.args.pattern) (omega (arith, c.encoded_len.ensures, c.if-encoded_len-gt0.false)) in
    sym (append-nil first) ∙ ap (λ p. first ++ p) (sym none)

pub returns-clause-joined : goal.returns-clause-joined
returns-clause-joined g c =
    let after = wstr_text c.in_ok-after.after in
    let first = c.split_at-2.ensures.front ∙ (up_to (c.in_ok-after.field-0-0 ∷ []) [] after _ _ _ c.in_ok-after.ensures c.len-2.ensures.size c.len-3.ensures.size).to in
    c.in_ok-after.ensures ∙ ap (λ t. t ++ after) (sym first)
