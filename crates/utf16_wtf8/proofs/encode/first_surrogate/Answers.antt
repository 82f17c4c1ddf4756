use Rattle.std.proofs.Common.{sym, ◌∙◌, true≢false}
use Rattle.utf16_wtf8.proofs.SurrogateLemmas.{cut_off_surrogate, no_third, paired_surrogate, surrogate_here}
use Rattle.utf16_wtf8.proofs.encode.first_surrogate.Goals as goal
use Rattle.utf16_wtf8.proofs.encode.first_surrogate.Goals.{else-after_leading-via-then-after_leading+else-is_trailing_surrogate, else-after_leading-via-else-after_leading}

pub returns-then-rest-lt-SURROGATE_LEN-clause-stop :
    goal.returns-then-rest-lt-SURROGATE_LEN-clause-stop
returns-then-rest-lt-SURROGATE_LEN-clause-stop c = cut_off_surrogate c.args.rest.now c.args.after_leading c.requires c.if-rest-lt-SURROGATE_LEN.true

pub returns-then-not-is_continuation-clause-stop : goal.returns-then-not-is_continuation-clause-stop
returns-then-not-is_continuation-clause-stop c =
    no_third c.args.rest.now c.args.after_leading c.requires c.if-rest-lt-SURROGATE_LEN.false (sym c.is_continuation.ensures ∙ c.if-not-is_continuation.true)

pub returns-then-is_trailing_surrogate-clause-stop :
    goal.returns-then-is_trailing_surrogate-clause-stop
returns-then-is_trailing_surrogate-clause-stop c =
    paired_surrogate c.args.rest.now c.args.after_leading c.requires c.if-rest-lt-SURROGATE_LEN.false (sym c.is_continuation.ensures ∙ c.if-not-is_continuation.false)
    c.if-after_leading.true (c.is_trailing_surrogate.ensures.0 c.if-is_trailing_surrogate.true)

pub returns-clause-surrogate : goal.returns-clause-surrogate
returns-clause-surrogate c =
    surrogate_here c.args.rest.now c.args.after_leading c.requires c.if-rest-lt-SURROGATE_LEN.false (sym c.is_continuation.ensures ∙ c.if-not-is_continuation.false)
    (elim c.else-after_leading.branch [
      | else-after_leading-via-then-after_leading+else-is_trailing_surrogate w ↦ (λ leads trail. true≢false (sym (w.is_trailing_surrogate.ensures.1 trail) ∙ w.if-is_trailing_surrogate.false))
      | else-after_leading-via-else-after_leading w ↦ (λ leads trail. true≢false (sym leads ∙ w.if-after_leading.false))
    ])
