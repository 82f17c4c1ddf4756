use Rattle.std.proofs.Common.{◌-◌, length, rules, subst, sym}
use Rattle.utf16_units.specs.Encoding.{char_bytes}
use Rattle.utf16_transcode.specs.Transcoded.{Writes}
use Rattle.utf16_transcode.proofs.TranscodedLemmas.{Writes-none, Writes-then, stops_there}
use Rattle.utf16_transcode.specs.Stops.{Stops}
use Rattle.utf16_fixed.specs.Stops32.{IsIllFormedUtf32, IsIllFormedUtf32At}
use Rattle.utf16_fixed.specs.Utf32.{IsUtf32, TranscodesFromUtf32, utf32_units}
use Rattle.utf16_fixed.proofs.RoomLemmas.{from_utf32_fits}
use Rattle.utf16_fixed.proofs.ValidLemmas.{ill_formed_there}
use Rattle.utf16_fixed.proofs.TextLemmas.{utf16_joins, utf32_empty}
use Rattle.utf16_fixed.proofs.encode.from_utf32.Given.{Over}
use Rattle.utf16_fixed.proofs.encode.from_utf32.Goals as goal
use Rattle.utf16_fixed.proofs.encode.from_utf32.Goals.{In-Err}

pub loop-done-init : goal.loop-done-init
loop-done-init g c = Writes-none (utf32_empty g.E.Utf16Order.BIG) _ _

pub loop-done-preserved : goal.loop-done-preserved
loop-done-preserved g c = Writes-then (utf16_joins g.E.Utf16Order.BIG) _ _ _ _ _ _ _ c.write_run-done.ensures.wrote c.in-Ok.ensures.wrote

-- an error leaves the buffer as it is
kept : (g : Over) (c : In-Err g)
    → Writes (TranscodesFromUtf32 g.E.Utf16Order.BIG) c.args.utf32.now c.write_next_char.new.to c.write_run-done.result.read c.write_run-done.result.written
kept g c =
    subst (λ to. Writes (TranscodesFromUtf32 g.E.Utf16Order.BIG) c.args.utf32.now to c.write_run-done.result.read c.write_run-done.result.written)
    (sym c.in-Err.ensures.unchanged) c.write_run-done.ensures.wrote

pub returns-in-Err-clause-wrote : goal.returns-in-Err-clause-wrote
returns-in-Err-clause-wrote g c = kept g (goal.at.returns-in-Err-clause-wrote g c).In-Err

stops : (g : Over) (c : In-Err g)
    → Stops utf32_units (char_bytes g.E.Utf16Order.BIG) IsIllFormedUtf32 c.args.utf32.now c.write_run-done.result.read
    (length c.write_next_char.new.to - c.write_run-done.result.written) c.in-Err.stop
stops g c =
    let big = g.E.Utf16Order.BIG in
    let wrote = kept g c in
    stops_there utf32_units (char_bytes big) IsUtf32 IsIllFormedUtf32At IsIllFormedUtf32 ill_formed_there _ _ _ (search rules)
    wrote.gives.scalars c.in-Err.stop c.in-Err.ensures.stop

pub returns-in-Err-clause-stop : goal.returns-in-Err-clause-stop
returns-in-Err-clause-stop g c = stops g (goal.at.returns-in-Err-clause-stop g c).In-Err

pub returns-in-Err-clause-succeeds : goal.returns-in-Err-clause-succeeds
returns-in-Err-clause-succeeds g c room full =
    let at = (goal.at.returns-in-Err-clause-succeeds g c).In-Err in
    from_utf32_fits g.E.Utf16Order.BIG _ _ _ _ (kept g at) (subst (Stops utf32_units (char_bytes g.E.Utf16Order.BIG) IsIllFormedUtf32 _ _ _) full (stops g at)) room
