use Rattle.std.proofs.Common.{◌<◌, ◌++◌, ◌∙◌, flat_map, length, take, sym, ap, arith, append-nil, rules}
use Rattle.utf16_units.specs.Encoding.{char_bytes}
use Rattle.utf16_units.proofs.CharLemmas.{one_unit_bytes}
use Rattle.utf16_units.proofs.UnitLemmas.{length-unit_bytes}
use Rattle.utf16_transcode.proofs.FeedsUtf8.{end_text}
use Rattle.utf16_transcode.proofs.encode_lossy.FromUtf8LossyDirection.write_end.Goals as goal

pub returns-then-to-at-lt-REPLACEMENT_LEN-clause-none : goal.returns-then-to-at-lt-REPLACEMENT_LEN-clause-none
returns-then-to-at-lt-REPLACEMENT_LEN-clause-none g c none =
    let big = g.E.Utf16Order.BIG in
    let some : 0 < length c.args.tail.now = search rules in
    let long = ap (λ t. length (flat_map (char_bytes big) t)) (end_text c.args.tail.now some) ∙ ap length (append-nil (char_bytes big 0xFFFD) ∙ one_unit_bytes big 0xFFFD (omega arith)) ∙ length-unit_bytes big 0xFFFD in
    omega (arith, long, c.if-to-at-lt-REPLACEMENT_LEN.true)

pub returns-clause-bytes : goal.returns-clause-bytes
returns-clause-bytes g c =
    let big = g.E.Utf16Order.BIG in
    let some : 0 < length c.args.tail.now = search rules in
    c.put.ensures.bytes ∙ ap (λ b. take c.args.at c.args.to.now ++ b)
    (c.write_unit.ensures ∙ sym (one_unit_bytes big 0xFFFD (omega arith)) ∙ sym (append-nil (char_bytes big 0xFFFD)) ∙ ap (flat_map (char_bytes big)) (sym (end_text c.args.tail.now some)))
