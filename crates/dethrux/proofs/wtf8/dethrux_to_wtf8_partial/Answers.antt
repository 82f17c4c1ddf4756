use Rattle.std.proofs.Common.{arith, rules}
use Rattle.utf16_transcode.proofs.ToUtf8Parts.{utf8_short}
use Rattle.utf16_wtf8.specs.ToWtf8.{wtf8_split}
use Rattle.utf16_wtf8.specs.Wtf8.{generalized_utf8}
use Rattle.utf16_wtf8.proofs.ToWtf8Lemmas.{wtf8_chunks}
use Rattle.dethrux.specs.Numbers.{is_big}
use Rattle.dethrux.proofs.Bounds.{decided_advances, decided_filled, decided_fits}
use Rattle.dethrux.proofs.WtfBounds.{decided_wtf8_within}
use Rattle.dethrux.proofs.wtf8.dethrux_to_wtf8_partial.Goals as goal

pub returns-clause-decodes : goal.returns-clause-decodes
returns-clause-decodes c = search rules

pub returns-clause-stop : goal.returns-clause-stop
returns-clause-stop c = search rules

pub returns-clause-succeeds : goal.returns-clause-succeeds
returns-clause-succeeds c enough =
    let big = is_big c.args.byte_order in
    let most = decided_wtf8_within big c.args.utf16.now (λ k. omega (arith, c.type_inv.utf16 k)) in
    decided_fits (wtf8_split big) generalized_utf8 _ _ _ _ (returns-clause-decodes c) _ (returns-clause-stop c) (omega (arith, enough, most))

pub returns-clause-filled : goal.returns-clause-filled
returns-clause-filled c full =
    decided_filled (wtf8_split (is_big c.args.byte_order)) generalized_utf8 _ _ _ _ (returns-clause-decodes c) utf8_short _ (returns-clause-stop c) full

pub returns-clause-advances : goal.returns-clause-advances
returns-clause-advances c room some =
    let big = is_big c.args.byte_order in
    decided_advances (wtf8_split big) generalized_utf8 _ _ _ _ (returns-clause-decodes c) utf8_short (wtf8_chunks big) room some _ (returns-clause-stop c)
