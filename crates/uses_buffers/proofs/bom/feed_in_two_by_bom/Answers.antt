use Rattle.std.proofs.Common.{◌≡◌, ◌⊎◌, ◌++◌, ℕ, Bool, List, Option, Result, Ok, Err, inr, string_bytes, sym, ap, ap₂, ◌∙◌, append_assoc, rules}
use Rattle.std.specs.Prelude.{OnErr}
use Rattle.utf16_tools.specs.AnyLossy.{any_byte_order, any_pending}
use Rattle.utf16_tools.specs.Bom.{items_in, byte_order_after, tail_in}
use Rattle.utf16_tools.proofs.DecodesLemmas.{shown, shown-append}
use Rattle.utf16_tools.proofs.BomLemmas.{items_in-append, byte_order_after-append, tail_in-append}
use Rattle.uses_buffers.specs.Given.{Leaves}
use Rattle.uses_buffers.proofs.bom.feed_in_two_by_bom.Goals as goal

-- what two chunks leave, one after the other
leaves_both : (order : Option Bool) (pending first second : List ℕ) (found last : Option Bool) (kept left : List ℕ)
    → Leaves order (pending ++ first) found kept → Leaves found (kept ++ second) last left → Leaves order (pending ++ (first ++ second)) last left
leaves_both order pending first second found last kept left one two = (
  two.0 ∙ ap₂ (λ o p. byte_order_after o (p ++ second)) one.0 one.1 ∙ sym (byte_order_after-append order (pending ++ first) second)
      ∙ ap (byte_order_after order) (append_assoc pending first second),
  two.1 ∙ ap₂ (λ o p. tail_in o (p ++ second)) one.0 one.1 ∙ sym (tail_in-append order (pending ++ first) second)
      ∙ ap (tail_in order) (append_assoc pending first second),
)

-- the last of three cases, in which a call fails
third : {T E : Type 0} (X Y Z : Type 0) (r : Result T E) → Z → OnErr r (X ⊎ (Y ⊎ Z))
third X Y Z (Ok value) z = tt
third X Y Z (Err error) z = inr (inr z)

pub returns-clause-text : goal.returns-clause-text
returns-clause-text g c =
    let order = any_byte_order c.args.decoder.now in
    let pending = any_pending c.args.decoder.now in
    let front = pending ++ c.args.first.now in
    let second = c.args.second.now in
    let both : string_bytes c.push_str.new.self ≡ string_bytes c.in_ok-text.text ++ string_bytes c.in_ok-more.more = search rules in
    let more = c.in_ok-more.ensures.text ∙ ap₂ (λ o p. shown (items_in o (p ++ second))) c.in_ok-text.ensures.byte_order c.in_ok-text.ensures.pending in
    both ∙ ap₂ (λ t m. t ++ m) c.in_ok-text.ensures.text more
    ∙ sym (ap shown (items_in-append order front second) ∙ shown-append (items_in order front) (items_in (byte_order_after order front) (tail_in order front ++ second)))
    ∙ ap (λ b. shown (items_in order b)) (append_assoc pending c.args.first.now second)

pub returns-clause-pending : goal.returns-clause-pending
returns-clause-pending g c =
    (leaves_both _ _ _ _ _ _ _ _ (c.in_ok-text.ensures.byte_order, c.in_ok-text.ensures.pending) (c.in_ok-more.ensures.byte_order, c.in_ok-more.ensures.pending)).1

pub returns-clause-byte_order : goal.returns-clause-byte_order
returns-clause-byte_order g c =
    (leaves_both _ _ _ _ _ _ _ _ (c.in_ok-text.ensures.byte_order, c.in_ok-text.ensures.pending) (c.in_ok-more.ensures.byte_order, c.in_ok-more.ensures.pending)).0

pub returns-in_err-more-clause-err : goal.returns-in_err-more-clause-err
returns-in_err-more-clause-err g c = search rules

pub returns-in_err-push_str-clause-err : goal.returns-in_err-push_str-clause-err
returns-in_err-push_str-clause-err g c = third _ _ _ c.from_residual-in_err-push_str.result
    (leaves_both _ _ _ _ _ _ _ _ (c.in_ok-text.ensures.byte_order, c.in_ok-text.ensures.pending) (c.in_ok-more.ensures.byte_order, c.in_ok-more.ensures.pending))
