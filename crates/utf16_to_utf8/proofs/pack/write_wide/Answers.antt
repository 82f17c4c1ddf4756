use Rattle.std.proofs.Common.{slice_index, arith}
use Rattle.std.proofs.lemmas.Simd.{length-chunk}
use lib.Lanes.{chunk}
use Rattle.utf16_to_utf8.specs.Pack.{IsThree}
use Rattle.utf16_to_utf8.proofs.AddedLemmas.{threes-of}
use Rattle.utf16_to_utf8.proofs.BlockLemmas.{both_halves, of_eight}
use Rattle.utf16_to_utf8.proofs.pack.write_wide.Goals as goal

pub returns-clause-bytes : goal.returns-clause-bytes
returns-clause-bytes c before =
    let units = c.args.units in
    let long = c.fits-units.0 in
    let fronts = c.wide.result in
    let thirds = c.thirds.result in
    let front = c.eights-fronts.ensures in
    let third = c.eights-thirds.ensures in
    let are = threes-of 16 units long c.fits-units.1 fronts thirds c.wide.ensures c.thirds.ensures c.requires.wide in
    both_halves 7 before units _ _ _ long
    (c.write_threes-end.ensures.bytes before (chunk 0 8 units) (length-chunk 0 8 units (omega (arith, long)))
    (of_eight (λ _ u x y _. IsThree u x y) before 0 units (omega arith) fronts thirds thirds _ _ _ front.low third.low third.low are))
    (c.write_threes.ensures.bytes (slice_index units 7) (chunk 8 8 units) (length-chunk 8 8 units (omega (arith, long)))
    (of_eight (λ _ u x y _. IsThree u x y) before 8 units (omega arith) fronts thirds thirds _ _ _ front.high third.high third.high are))
