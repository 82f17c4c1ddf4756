use Rattle.std.proofs.Common.{inl, inr, ◌+◌, ◌∙◌, arith, length, sym}
use Rattle.utf16_wtf8.proofs.FromLenLemmas.{Counts, Counts-next, Counts-none, Counts-surrogate, counted_len, counted_within, ends_surrogate, ends_text, surrogate_fits, text_fits, written_if_it_fits}
use Rattle.utf16_wtf8.proofs.sizes.from_wtf8_len.Goals as goal
use Rattle.utf16_wtf8.proofs.sizes.from_wtf8_len.Goals.{After-begins_surrogate, then-after_leading, else-after_leading}

pub loop-after_leading-init : goal.loop-after_leading-init
loop-after_leading-init c = (omega arith, Counts-none c.args.wtf8.now)

pub overflow_add-len : goal.overflow_add-len
overflow_add-len c =
    let at = c.loop-after_leading in
    let most = text_fits c.args.wtf8.now c.utf8_front-text.result.now at.read at.len at.after_leading at.invariant.1 c.utf8_front-text.ensures.front in
    record { fits = omega (arith, c.utf16_len-len.ensures) }

-- the text was read
after : (c : After-begins_surrogate)
    → Counts c.args.wtf8.now (c.loop-after_leading.read + length c.utf8_front-text.result.now) (c.loop-after_leading.len + c.utf16_len-len.result)
    c.if-after_leading.after_leading
after c =
    let at = c.loop-after_leading in
    Counts-next c.args.wtf8.now c.utf8_front-text.result.now at.read at.len at.after_leading at.invariant.1 c.utf8_front-text.ensures.front
    c.if-after_leading.after_leading c.utf16_len-len.result c.utf16_len-len.ensures
    (elim c.if-after_leading.branch [
      | then-after_leading w ↦ inl (w.if-after_leading.true, w.after_leading-is ∙ w.is_empty-after_leading.ensures)
      | else-after_leading w ↦ inr (w.if-after_leading.false, w.after_leading-is)
    ])

pub overflow_add-len-in-Ok : goal.overflow_add-len-in-Ok
overflow_add-len-in-Ok c =
    let most = surrogate_fits c.args.wtf8.now _ _ c.in-Ok.unit c.if-after_leading.after_leading (after (goal.at.overflow_add-len-in-Ok c).After-begins_surrogate) c.in-Ok.ensures.surrogate in
    record { fits = omega arith }

pub loop-after_leading-preserved : goal.loop-after_leading-preserved
loop-after_leading-preserved c =
    let lead = c.is_leading_surrogate-after_leading in
    let next = Counts-surrogate c.args.wtf8.now _ _ c.in-Ok.unit c.if-after_leading.after_leading (after (goal.at.loop-after_leading-preserved c).After-begins_surrogate)
    c.in-Ok.ensures.surrogate lead.result lead.ensures.0 lead.ensures.1 in
    (counted_within _ _ _ _ next, next)

pub returns-then-not-begins_surrogate-clause-len : goal.returns-then-not-begins_surrogate-clause-len
returns-then-not-begins_surrogate-clause-len c =
    let at = c.loop-after_leading in
    let now = after (goal.at.returns-then-not-begins_surrogate-clause-len c).After-begins_surrogate in
    counted_len c.args.wtf8.now _ _ c.if-after_leading.after_leading now
    (ends_text c.args.wtf8.now c.utf8_front-text.result.now at.read at.len at.after_leading at.invariant.1 c.utf8_front-text.ensures.front _ _ now
    (sym c.begins_surrogate.ensures ∙ c.if-not-begins_surrogate.true))

pub returns-in-Err-clause-len : goal.returns-in-Err-clause-len
returns-in-Err-clause-len c =
    let now = after (goal.at.returns-in-Err-clause-len c).After-begins_surrogate in
    counted_len c.args.wtf8.now _ _ c.if-after_leading.after_leading now
    (ends_surrogate c.args.wtf8.now _ _ c.if-after_leading.after_leading c.in-Err.field-0 now (sym c.begins_surrogate.ensures ∙ c.if-not-begins_surrogate.false)
    c.in-Err.ensures.stop)

pub returns-then-not-begins_surrogate-clause-written : goal.returns-then-not-begins_surrogate-clause-written
returns-then-not-begins_surrogate-clause-written c = written_if_it_fits c.args.wtf8.now _ (returns-then-not-begins_surrogate-clause-len c)

pub returns-in-Err-clause-written : goal.returns-in-Err-clause-written
returns-in-Err-clause-written c = written_if_it_fits c.args.wtf8.now _ (returns-in-Err-clause-len c)
