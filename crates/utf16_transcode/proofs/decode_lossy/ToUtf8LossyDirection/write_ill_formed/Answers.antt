use Rattle.std.proofs.Common.{Some, arith, refl, rules, subst}
use Rattle.utf16_units.proofs.EncodingLemmas.{IsUtf16-nil}
use Rattle.utf16_transcode.specs.Stops.{IsIllFormedUtf16}
use Rattle.utf16_transcode.specs.Transcoded.{DecodesTo}
use Rattle.utf16_transcode.proofs.DecodeLossyLemmas.{DecodesTo-lone, replacement_does_not_fit, replacement_fits, some_items}
use Rattle.utf16_transcode.proofs.ToUtf8Lemmas.{faults_there, utf8_empty}
use Rattle.utf16_transcode.proofs.decode_lossy.ToUtf8LossyDirection.write_ill_formed.Given.{Over}
use Rattle.utf16_transcode.proofs.decode_lossy.ToUtf8LossyDirection.write_ill_formed.Goals as goal
use Rattle.utf16_transcode.proofs.decode_lossy.ToUtf8LossyDirection.write_ill_formed.Goals.{Start}

found : (g : Over) (c : Start g) → IsIllFormedUtf16 g.E.Utf16Order.BIG c.args.input.now 0 (Some c.args.len)
found g c = faults_there g.E.Utf16Order.BIG c.args.input.now 0 (Some c.args.len) c.requires.some (IsUtf16-nil g.E.Utf16Order.BIG) c.requires.ill_formed

pub returns-then-to-ge-FEED_SLACK-clause-advances : goal.returns-then-to-ge-FEED_SLACK-clause-advances
returns-then-to-ge-FEED_SLACK-clause-advances g c =
    let here = found g (goal.at.returns-then-to-ge-FEED_SLACK-clause-advances g c).Start in
    omega (arith, c.write_with_replacements.ensures.advances (some_items _ _ _ _ here (λ k. omega (arith, c.type_inv.input k))))

pub returns-then-to-ge-FEED_SLACK-clause-sequence : goal.returns-then-to-ge-FEED_SLACK-clause-sequence
returns-then-to-ge-FEED_SLACK-clause-sequence g c =
    let here = found g (goal.at.returns-then-to-ge-FEED_SLACK-clause-sequence g c).Start in
    omega (arith, c.requires.ill_formed.1.0, c.write_with_replacements.ensures.advances (some_items _ _ _ _ here (λ k. omega (arith, c.type_inv.input k))))

pub returns-then-to-ge-FEED_SLACK-clause-none : goal.returns-then-to-ge-FEED_SLACK-clause-none
returns-then-to-ge-FEED_SLACK-clause-none g c =
    let here = found g (goal.at.returns-then-to-ge-FEED_SLACK-clause-none g c).Start in
    (λ none. absurd (cc), λ full. absurd (replacement_fits _ _ _ _ here (λ k. omega (arith, c.type_inv.input k)) _ (omega arith) full))

pub returns-then-to-lt3-clause-none : goal.returns-then-to-lt3-clause-none
returns-then-to-lt3-clause-none g c =
    let here = found g (goal.at.returns-then-to-lt3-clause-none g c).Start in
    (λ none. replacement_does_not_fit _ _ _ _ here (λ k. omega (arith, c.type_inv.input k)) _ c.if-to-lt3.true, λ full. refl)

pub returns-clause-none : goal.returns-clause-none
returns-clause-none g c =
    let here = found g (goal.at.returns-clause-none g c).Start in
    (λ none. absurd (cc), λ full. absurd (replacement_fits _ _ _ _ here (λ k. omega (arith, c.type_inv.input k)) _ (omega arith) full))

pub returns-clause-decodes : goal.returns-clause-decodes
returns-clause-decodes g c =
    let here = found g (goal.at.returns-clause-decodes g c).Start in
    subst (λ n. DecodesTo g.E.Utf16Order.BIG c.args.input.now c.put.new.to n c.put.result) (omega arith)
    (DecodesTo-lone g.E.Utf16Order.BIG c.args.input.now 0 c.args.len here (λ k. omega (arith, c.type_inv.input k)) c.args.to.now c.put.new.to 0 c.put.result
    (utf8_empty g.E.Utf16Order.BIG) (search rules) c.put.ensures.bytes)
