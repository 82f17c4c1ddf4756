use Rattle.std.proofs.Common.{◌≡◌, ◌+◌, ◌*◌, ◌∙◌, ap, arith, drop, length, slice_index, subst, sym, take}
use Rattle.utf16_units.proofs.UnitLemmas.{length-unit_bytes}
use Rattle.utf16_fixed.proofs.WidenLemmas.{IsWidened-unit}
use Rattle.utf16_fixed.proofs.widen.WidenBlock1.write.Goals as goal

pub returns-clause-written : goal.returns-clause-written
returns-clause-written g c before done =
    let big = g.E.Utf16Order.BIG in
    let at = c.args.at in
    let to = c.args.to.now in
    let put = c.put in
    let end : 2 * at + 2 ≡ put.result = omega (arith, put.ensures.written_to, ap length c.write_unit.ensures, length-unit_bytes big (slice_index c.args.latin1.now at)) in
    IsWidened-unit big c.args.latin1.now before to put.new.to c.write_unit.result at done c.type_inv.latin1
    (omega arith) (omega arith) c.write_unit.ensures (ap (λ m. take m put.new.to) end ∙ put.ensures.bytes)
    (subst (λ m. drop m put.new.to ≡ drop m to) (sym end) put.ensures.rest)
