use Rattle.std.proofs.Common.{◌+◌, ◌∙◌, false, arith, get_or, refl}
use Rattle.utf16string.proofs.PlainUnits.{bool_byte-below, drop-later, encode-none, written-next}
use Rattle.utf16string.proofs.retain_blocks.write_some.Goals as goal

pub loop-i-init : goal.loop-i-init
loop-i-init g c = record { order = omega (arith, c.requires.down); written = encode-none _ _; behind = refl }

pub loop-i-preserved : goal.loop-i-preserved
loop-i-preserved g c =
    let at = c.loop-i.invariant in
    let answer = get_or c.args.answers.now c.loop-i.i false in
    record {
      order = omega (arith, at.order, bool_byte-below answer);
      written =
          written-next g.E.Utf16Order.BIG _ c.args.answers.now c.args.units.now c.loop-i.i (omega arith) (omega arith) answer refl c.loop-i.end c.loop-i.bytes _
          (omega (arith, at.order)) at.written c.write_unit.ensures.bytes;
      behind = drop-later (c.loop-i.end + 2) (c.args.start + 32) _ _ (omega (arith, at.order)) c.write_unit.ensures.rest ∙ at.behind;
    }
