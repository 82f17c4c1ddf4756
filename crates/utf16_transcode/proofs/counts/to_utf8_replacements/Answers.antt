use Rattle.std.proofs.Common.{◌≡◌, ◌↔◌, Some, length, drop, refl, sym, ap, ◌∙◌, subst, arith, length-drop}
use Rattle.std.proofs.lemmas.List.{take_rest}
use Rattle.utf16_units.specs.Encoding.{IsUtf16}
use Rattle.utf16_units.specs.IllFormed.{IsIllFormed, IsUtf16ValidUpTo}
use Rattle.utf16_units.proofs.FirstChar.{AreBytes}
use Rattle.utf16_units.proofs.SplitIllFormed.{AreBytes-drop}
use Rattle.utf16_transcode.specs.Replaced.{ill_formed_count}
use Rattle.utf16_transcode.proofs.DecodeLossyLemmas.{some_left}
use Rattle.utf16_transcode.proofs.CountLemmas.{count_cut_off, count_fault, count_none, count_text}
use Rattle.utf16_transcode.proofs.counts.to_utf8_replacements.Goals as goal

pub returns-in-Ok-clause-count : goal.returns-in-Ok-clause-count
returns-in-Ok-clause-count g c = omega (arith, c.loop-error.invariant.0, count_text _ _ (c.in-Ok.ensures.ok.0 refl))

pub returns-in-Ok-clause-well_formed : goal.returns-in-Ok-clause-well_formed
returns-in-Ok-clause-well_formed g c =
    subst (λ n. (n ≡ 0) ↔ IsUtf16 g.E.Utf16Order.BIG c.args.raw.now) (sym (returns-in-Ok-clause-count g c))
    (count_none g.E.Utf16Order.BIG c.args.raw.now (λ k. omega (arith, c.type_inv.raw k)))

pub loop-error-preserved : goal.loop-error-preserved
loop-error-preserved g c =
    let big = g.E.Utf16Order.BIG in
    let rest = c.loop-error.rest.now in
    let n = c.valid_up_to.result in
    let len = c.in-Some.len in
    let are = c.loop-error.invariant.2 in
    let at = subst (IsUtf16ValidUpTo big rest) (sym c.valid_up_to.ensures) c.in-Err.ensures.error.front in
    let wrong = subst (IsIllFormed big rest) (sym c.error_len.ensures ∙ c.in-Some.is) c.in-Err.ensures.error.fault in
    let left = take_rest c.split_at.result.1.now len ∙ ap (drop len) c.split_at.ensures.back in
    let next = ap (ill_formed_count big) left in
    let shorter = ap length left ∙ length-drop len (drop n rest) in (
      omega (arith, c.loop-error.invariant.0, next, count_fault big rest n len are at wrong),
      omega (arith, c.loop-error.invariant.1, shorter, length-drop n rest, some_left big rest n (Some len) (at, wrong), wrong.at_front.0),
      subst AreBytes (sym left) (AreBytes-drop len _ (AreBytes-drop n rest are)),
    )

pub returns-in-None-clause-count : goal.returns-in-None-clause-count
returns-in-None-clause-count g c =
    let big = g.E.Utf16Order.BIG in
    let wrong = subst (IsIllFormed big c.loop-error.rest.now) (sym c.error_len.ensures ∙ c.in-None.is) c.in-Err.ensures.error.fault in
    omega (arith, c.loop-error.invariant.0, count_cut_off big c.loop-error.rest.now _ c.in-Err.ensures.error.front wrong)

pub returns-in-None-clause-well_formed : goal.returns-in-None-clause-well_formed
returns-in-None-clause-well_formed g c =
    subst (λ n. (n ≡ 0) ↔ IsUtf16 g.E.Utf16Order.BIG c.args.raw.now) (sym (returns-in-None-clause-count g c))
    (count_none g.E.Utf16Order.BIG c.args.raw.now (λ k. omega (arith, c.type_inv.raw k)))
