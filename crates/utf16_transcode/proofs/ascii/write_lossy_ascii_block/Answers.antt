use Rattle.std.proofs.Common.{◌*◌, Some, subst, arith}
use Rattle.utf16_units.specs.IllFormed.{IsIllFormedAt}
use Rattle.utf16_units.proofs.FirstChar.{AreBytes}
use Rattle.utf16_units.proofs.IllFormedLemmas.{faults, rest_from}
use Rattle.utf16_transcode.proofs.DecodeLossyLemmas.{DecodesTo-front, DecodesTo-lone}
use Rattle.utf16_transcode.proofs.ascii.write_lossy_ascii_block.Goals as goal

pub returns-then-len-eq32-clause-decodes : goal.returns-then-len-eq32-clause-decodes
returns-then-len-eq32-clause-decodes g c =
    let put = c.write_ascii_prefix-len in
    DecodesTo-front _ _ _ _ _ (omega (arith, put.ensures.few, c.requires.bytes)) (omega (arith, put.ensures.few, put.auto.to, c.requires.space)) put.ensures.text

pub returns-in-Err-Some-clause-decodes : goal.returns-in-Err-Some-clause-decodes
returns-in-Err-Some-clause-decodes g c =
    let big = g.E.Utf16Order.BIG in
    let raw = c.args.raw.now in
    let put = c.write_ascii_prefix-len in
    let len = put.result in
    let here = subst (IsIllFormedAt big (rest_from raw (2 * len))) c.in-Err-Some.field-0-is c.in-Err-Some.ensures.ill_formed in
    let found = faults big raw (2 * len) (Some c.in-Err-Some.lone) (omega (arith, put.ensures.few, c.requires.bytes)) put.ensures.text.0 here in
    let are : AreBytes raw = λ k. omega (arith, c.type_inv.raw k) in
    DecodesTo-lone big raw _ _ found are _ _ _ _ put.ensures.text
    (omega (arith, put.ensures.few, put.auto.to, c.put.auto.to, c.put.ensures.written_to, c.requires.space)) c.put.ensures.bytes
