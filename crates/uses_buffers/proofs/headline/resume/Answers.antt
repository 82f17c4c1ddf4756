use Rattle.std.proofs.Common.{◌<◌, ◌++◌, drop, encode_utf8_all, string_bytes, sym, ap, ◌∙◌, subst, arith}
use Rattle.std.proofs.lemmas.List.{take_rest}
use Rattle.std.proofs.lemmas.List.Elements.{All-from_get_or}
use Rattle.utf16_units.specs.Encoding.{text_of}
use Rattle.utf16_units.proofs.FirstChar.{AreBytes}
use Rattle.utf16_units.proofs.RecipeLemmas.{split_text}
use Rattle.utf16_units.proofs.SplitIllFormed.{AreBytes-drop}
use Rattle.utf16_tools.specs.Decodes.{Decodes}
use Rattle.utf16_tools.proofs.DecodesLemmas.{cut_off_decides, cut_off_leaves, text_shown}
use Rattle.utf16_tools.proofs.DecodesSteps.{Decodes-last, Decodes-none, Decodes-then}
use Rattle.utf16_tools.proofs.IllFormedDecides.{fault_decides}
use Rattle.uses_buffers.proofs.headline.resume.Goals as goal

pub loop-text-init : goal.loop-text-init
loop-text-init g c = (Decodes-none _ _ _ _, λ k. omega (arith, c.type_inv.bytes k))

pub returns-in-Ok-clause-text : goal.returns-in-Ok-clause-text
returns-in-Ok-clause-text g c =
    Decodes-last _ _ _ _ _ _ _ c.loop-text.invariant.0 (text_shown _ _ _ _ _ c.in-Ok.ensures.encoding c.in_ok-push_utf8-in-Ok.ensures.text)

pub returns-in-Ok-clause-tail : goal.returns-in-Ok-clause-tail
returns-in-Ok-clause-tail g c = sym (c.loop-text.invariant.0.tail ∙ (split_text _ _ _ c.in-Ok.ensures.encoding).1)

pub returns-in-Ok-clause-are_bytes : goal.returns-in-Ok-clause-are_bytes
returns-in-Ok-clause-are_bytes g c = All-from_get_or (λ b. b < 256) c.args.bytes.now 0 (λ k l. omega (arith, c.type_inv.bytes k))

pub returns-in-None-clause-are_bytes : goal.returns-in-None-clause-are_bytes
returns-in-None-clause-are_bytes g c = All-from_get_or (λ b. b < 256) c.args.bytes.now 0 (λ k l. omega (arith, c.type_inv.bytes k))

pub returns-in-None-clause-text : goal.returns-in-None-clause-text
returns-in-None-clause-text g c =
    let text = ap (λ b. string_bytes c.loop-text.to ++ encode_utf8_all (text_of g.E.Utf16Order.BIG b)) (c.from_utf16_unchecked.ensures.bytes ∙ c.split_at.ensures.front) in
    Decodes-last _ _ _ _ _ _ _ c.loop-text.invariant.0
    (cut_off_decides _ _ _ c.in-Err.ensures.error _ c.valid_up_to.ensures (sym c.error_len.ensures ∙ c.in-None.is) _ _ (c.in_ok-push_utf8.ensures.text ∙ text))

pub returns-in-None-clause-tail : goal.returns-in-None-clause-tail
returns-in-None-clause-tail g c =
    c.split_at.ensures.back ∙ cut_off_leaves _ _ _ c.in-Err.ensures.error _ c.valid_up_to.ensures (sym c.error_len.ensures ∙ c.in-None.is)
    ∙ sym c.loop-text.invariant.0.tail

pub loop-text-preserved : goal.loop-text-preserved
loop-text-preserved g c =
    let rest = c.loop-text.rest.now in
    let text = ap (λ b. string_bytes c.loop-text.to ++ encode_utf8_all (text_of g.E.Utf16Order.BIG b)) (c.from_utf16_unchecked.ensures.bytes ∙ c.split_at.ensures.front) in
    let step = fault_decides _ _ _ c.in-Err.ensures.error _ c.valid_up_to.ensures c.loop-text.invariant.1 _ (sym c.error_len.ensures ∙ c.in-Some.is) _ _ _
    (c.in_ok-push_utf8.ensures.text ∙ text) c.in_ok-push-in-Some.ensures.bytes in
    let left = take_rest c.split_at.result.1.now c.in-Some.len ∙ ap (drop c.in-Some.len) c.split_at.ensures.back in
    subst (λ r. Decodes g.E.Utf16Order.BIG c.args.bytes.now r (string_bytes c.args.to.now) (string_bytes c.push.new.self) × AreBytes r) (sym left)
    (Decodes-then _ _ _ _ _ _ _ _ c.loop-text.invariant.0 step, AreBytes-drop c.in-Some.len _ (AreBytes-drop c.valid_up_to.result rest c.loop-text.invariant.1))
