use Rattle.std.proofs.Common.{◌≡◌, ◌+◌, ◌++◌, arith, ap, ◌∙◌, drop, subst, sym, take}
use Rattle.utf16_units.proofs.FirstChar.{AreBytes-from_All}
use Rattle.utf16_transcode.proofs.MendLemmas.{Mended, Mended-char, Mended-lone, Mended-none, Mended-text, mended_bytes, mended_count}
use Rattle.utf16_transcode.proofs.well_formed.mend.Goals as goal

pub loop-at-init : goal.loop-at-init
loop-at-init g c = Mended-none g.E.Utf16Order.BIG c.args.utf16.now c.requires

pub loop-at-preserved-in-Ok : goal.loop-at-preserved-in-Ok
loop-at-preserved-in-Ok g c =
    let char = Mended-char _ _ _ _ _ c.loop-at.invariant _ c.in-Ok.ensures.char in
    subst (λ at. Mended g.E.Utf16Order.BIG c.args.utf16.now c.loop-at.utf16 at c.loop-at.count) (omega arith)
    (Mended-text _ _ _ _ _ char _ c.valid_up_to.ensures.within c.valid_up_to.ensures.valid)

pub loop-at-preserved : goal.loop-at-preserved
loop-at-preserved g c =
    let put = c.put-at in
    let end : put.result ≡ c.loop-at.at + 2 = omega (arith, put.ensures.written_to) in
    let bytes = put.ensures.bytes ∙ ap (λ b. take c.loop-at.at c.loop-at.utf16 ++ b) c.write_unit-replacement.ensures in
    subst (λ at. Mended g.E.Utf16Order.BIG c.args.utf16.now put.new.to at (c.loop-at.count + 1)) (sym end)
    (Mended-lone _ _ _ _ _ c.loop-at.invariant _ c.in-Err.field-0 (AreBytes-from_All _ c.are_bytes.ensures) (omega (arith, c.loop-at-test.true, c.loop-at.invariant.long)) c.in-Err.ensures.ill_formed put.auto.to
    (sym (ap (λ at. take at put.new.to) end) ∙ bytes) (subst (λ at. drop at put.new.to ≡ drop at c.loop-at.utf16) end put.ensures.rest))

pub returns-clause-bytes : goal.returns-clause-bytes
returns-clause-bytes g c = mended_bytes _ _ _ _ _ c.loop-at.invariant (omega arith)

pub returns-clause-count : goal.returns-clause-count
returns-clause-count g c = mended_count _ _ _ _ _ c.loop-at.invariant (omega arith)
