use Rattle.std.proofs.Common.{sym, subst, ◌∙◌, arith}
use Rattle.utf16_transcode.specs.FromUtf8.{IsIllFormedUtf8At}
use Rattle.utf16_transcode.proofs.NoCharLemmas.{cut_after_three, cut_after_two, no_fourth_at, no_third_at, not_begun_at, one_byte_is}
use Rattle.utf16_transcode.proofs.encode.first_utf8_char.Goals as goal

pub returns-then-rest-lt2-clause-ill_formed : goal.returns-then-rest-lt2-clause-ill_formed
returns-then-rest-lt2-clause-ill_formed c =
    subst (λ bytes. IsIllFormedUtf8At bytes c.error_len_of_one.result) (one_byte_is c.args.rest.now (omega (arith, c.requires, c.if-rest-lt2.true))) c.error_len_of_one.ensures

pub returns-then-not-can_begin-clause-ill_formed : goal.returns-then-not-can_begin-clause-ill_formed
returns-then-not-can_begin-clause-ill_formed c =
    not_begun_at c.args.rest.now c.if-rest-lt2.false c.if-lead-lt128.false (sym c.can_begin.ensures ∙ c.if-not-can_begin.true)

pub returns-then-rest-lt3-clause-ill_formed : goal.returns-then-rest-lt3-clause-ill_formed
returns-then-rest-lt3-clause-ill_formed c =
    let begins = sym c.can_begin.ensures ∙ c.if-not-can_begin.false in
    cut_after_two c.args.rest.now (omega (arith, c.if-rest-lt2.false, c.if-rest-lt3.true)) begins c.if-lead-lt224.false

pub returns-then-not-is_continuation-clause-ill_formed : goal.returns-then-not-is_continuation-clause-ill_formed
returns-then-not-is_continuation-clause-ill_formed c =
    let begins = sym c.can_begin.ensures ∙ c.if-not-can_begin.false in
    let third = sym c.is_continuation-2.ensures ∙ c.if-not-is_continuation.true in
    no_third_at c.args.rest.now c.if-rest-lt3.false begins c.if-lead-lt224.false third

pub returns-then-rest-lt4-clause-ill_formed : goal.returns-then-rest-lt4-clause-ill_formed
returns-then-rest-lt4-clause-ill_formed c =
    let begins = sym c.can_begin.ensures ∙ c.if-not-can_begin.false in
    let third = sym c.is_continuation-2.ensures ∙ c.if-not-is_continuation.false in
    cut_after_three c.args.rest.now (omega (arith, c.if-rest-lt3.false, c.if-rest-lt4.true)) begins c.if-lead-lt240.false third

pub returns-then-not-is_continuation-2-clause-ill_formed : goal.returns-then-not-is_continuation-2-clause-ill_formed
returns-then-not-is_continuation-2-clause-ill_formed c =
    let begins = sym c.can_begin.ensures ∙ c.if-not-can_begin.false in
    let third = sym c.is_continuation-2.ensures ∙ c.if-not-is_continuation.false in
    let fourth = sym c.is_continuation-3.ensures ∙ c.if-not-is_continuation-2.true in
    no_fourth_at c.args.rest.now c.if-rest-lt4.false begins c.if-lead-lt240.false third fourth
