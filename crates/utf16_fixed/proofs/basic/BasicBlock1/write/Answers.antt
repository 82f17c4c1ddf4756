use Rattle.std.proofs.Common.{◌≡◌, ◌+◌, ◌*◌, ◌∷◌, ◌++◌, [], ◌∙◌, ap, append-nil, arith, drop, drop-cons, length, slice_index, subst, sym, take}
use Rattle.utf16_units.specs.Unit.{unit_bytes}
use Rattle.utf16_units.proofs.UnitLemmas.{length-unit_bytes}
use Rattle.utf16_fixed.specs.Utf32.{AreBasic}
use Rattle.utf16_fixed.proofs.BasicLemmas.{IsNarrowed-more, one-basic}
use Rattle.utf16_fixed.proofs.basic.BasicBlock1.write.Goals as goal

pub returns-clause-written : goal.returns-clause-written
returns-clause-written g c before done =
    let big = g.E.Utf16Order.BIG in
    let utf32 = c.args.utf32.now in
    let at = c.args.at in
    let unit = slice_index utf32 at in
    let first : unit ∷ [] ≡ take 1 (drop at utf32) = ap (take 1) (sym (drop-cons utf32 at 0 (omega (arith, c.requires.within)))) in
    let end : 2 * at + 2 ≡ c.put.result = omega (arith, c.put.ensures.written_to, ap length c.write_unit.ensures, length-unit_bytes big unit) in
    IsNarrowed-more big utf32 c.args.to.now at done 1 1 c.put.new.to (unit ∷ []) (omega arith) (omega (arith, c.requires.within))
    (omega (arith, c.requires.fits)) first (subst AreBasic first (one-basic unit c.if-unit-gt65535.false c.if-unit-eq27.false))
    (ap (λ m. take m c.put.new.to) end ∙ c.put.ensures.bytes ∙ ap (λ b. take (2 * at) c.args.to.now ++ b) (c.write_unit.ensures ∙ sym (append-nil (unit_bytes big unit))))
