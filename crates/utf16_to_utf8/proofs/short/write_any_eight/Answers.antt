use Rattle.std.proofs.Common.{slice_index}
use Rattle.utf16_to_utf8.proofs.AddedLemmas.{kept-of}
use Rattle.utf16_to_utf8.proofs.short.write_any_eight.Goals as goal

pub returns-clause-bytes : goal.returns-clause-bytes
returns-clause-bytes c =
    let units = c.args.units in
    let before = slice_index c.args.previous 7 in
    c.write_kept.ensures.bytes before units c.fits-units.0
    (kept-of 8 units c.fits-units.0 c.fits-units.1 before _ c.previous_eight.ensures _ _ _ c.outers.ensures c.endings-endings.ensures c.absences.ensures)
