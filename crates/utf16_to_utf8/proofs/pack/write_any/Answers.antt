use Rattle.std.proofs.Common.{slice_index, arith}
use Rattle.std.proofs.lemmas.Simd.{length-chunk}
use lib.Lanes.{chunk}
use Rattle.utf16_to_utf8.specs.Pack.{IsKept}
use Rattle.utf16_to_utf8.proofs.AddedLemmas.{kept-of}
use Rattle.utf16_to_utf8.proofs.BlockLemmas.{both_halves, of_eight}
use Rattle.utf16_to_utf8.proofs.pack.write_any.Goals as goal

pub returns-clause-bytes : goal.returns-clause-bytes
returns-clause-bytes c =
    let units = c.args.units in
    let long = c.fits-units.0 in
    let before = slice_index c.args.previous 15 in
    let outers = c.outers.result in
    let endings = c.endings.result in
    let absences = c.absences.result in
    let outer = c.eights-outers.ensures in
    let ending = c.eights-endings.ensures in
    let absence = c.eights-absences.ensures in
    let are = kept-of 16 units long c.fits-units.1 before _ c.previous_lanes.ensures outers endings absences c.outers.ensures c.endings.ensures c.absences.ensures in
    both_halves 7 before units _ _ _ long
    (c.write_kept-end.ensures.bytes before (chunk 0 8 units) (length-chunk 0 8 units (omega (arith, long)))
    (of_eight IsKept before 0 units (omega arith) outers endings absences _ _ _ outer.low ending.low absence.low are))
    (c.write_kept.ensures.bytes (slice_index units 7) (chunk 8 8 units) (length-chunk 8 8 units (omega (arith, long)))
    (of_eight IsKept before 8 units (omega arith) outers endings absences _ _ _ outer.high ending.high absence.high are))
