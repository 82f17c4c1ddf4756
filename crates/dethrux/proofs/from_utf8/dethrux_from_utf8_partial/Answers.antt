use Rattle.std.proofs.Common.{arith, rules}
use Rattle.utf16_units.specs.Encoding.{char_bytes}
use Rattle.utf16_transcode.specs.Utf8Stream.{utf8_split}
use Rattle.utf16_transcode.proofs.FeedsUtf8.{flat_size, utf16_short, utf8_chunks}
use Rattle.utf8_bytes.specs.Split.{decided_text}
use Rattle.utf8_bytes.proofs.LawProofs.{shown_within}
use Rattle.dethrux.specs.Numbers.{is_big}
use Rattle.dethrux.proofs.Bounds.{decided_advances, decided_filled, decided_fits}
use Rattle.dethrux.proofs.from_utf8.dethrux_from_utf8_partial.Goals as goal

pub returns-clause-decodes : goal.returns-clause-decodes
returns-clause-decodes c = search rules

pub returns-clause-stop : goal.returns-clause-stop
returns-clause-stop c = search rules

pub returns-clause-succeeds : goal.returns-clause-succeeds
returns-clause-succeeds c enough =
    let big = is_big c.args.byte_order in
    let bytes = c.args.utf8.now in
    decided_fits utf8_split (char_bytes big) _ _ _ _ (returns-clause-decodes c) _ (returns-clause-stop c)
    (omega (arith, enough, (shown_within bytes).2, flat_size big (decided_text bytes)))

pub returns-clause-filled : goal.returns-clause-filled
returns-clause-filled c full =
    let big = is_big c.args.byte_order in
    decided_filled utf8_split (char_bytes big) _ _ _ _ (returns-clause-decodes c) (utf16_short big) _ (returns-clause-stop c) full

pub returns-clause-advances : goal.returns-clause-advances
returns-clause-advances c room some =
    let big = is_big c.args.byte_order in
    decided_advances utf8_split (char_bytes big) _ _ _ _ (returns-clause-decodes c) (utf16_short big) utf8_chunks room some _ (returns-clause-stop c)
