use Rattle.std.proofs.Common.{◌-◌, length, rules, subst, sym}
use Rattle.utf16_units.specs.Encoding.{IsUtf16, char_bytes}
use Rattle.utf16_units.specs.IllFormed.{IsIllFormedAt}
use Rattle.utf16_units.proofs.EncodingLemmas.{IsUtf16-from_Encodes}
use Rattle.utf16_transcode.specs.Stops.{IsIllFormedUtf16, Stops}
use Rattle.utf16_transcode.specs.Transcoded.{Writes}
use Rattle.utf16_transcode.proofs.ToUtf8Lemmas.{faults_there}
use Rattle.utf16_transcode.proofs.TranscodedLemmas.{Writes-none, Writes-then, stops_there}
use Rattle.utf16_fixed.specs.Utf32.{TranscodesToUtf32, utf32_units}
use Rattle.utf16_fixed.proofs.RoomLemmas.{to_utf32_fits}
use Rattle.utf16_fixed.proofs.TextLemmas.{utf32_empty, utf32_joins}
use Rattle.utf16_fixed.proofs.decode.to_utf32.Given.{Over}
use Rattle.utf16_fixed.proofs.decode.to_utf32.Goals as goal
use Rattle.utf16_fixed.proofs.decode.to_utf32.Goals.{In-Err}

pub loop-done-init : goal.loop-done-init
loop-done-init g c = Writes-none (utf32_empty g.E.Utf16Order.BIG) _ _

pub loop-done-preserved : goal.loop-done-preserved
loop-done-preserved g c = Writes-then (utf32_joins g.E.Utf16Order.BIG) _ _ _ _ _ _ _ c.write_run-done.ensures.wrote c.in-Ok.ensures.wrote

-- an error leaves the buffer as it is
kept : (g : Over) (c : In-Err g)
    → Writes (TranscodesToUtf32 g.E.Utf16Order.BIG) c.args.raw.now c.write_next_char.new.to c.write_run-done.result.read c.write_run-done.result.written
kept g c =
    subst (λ to. Writes (TranscodesToUtf32 g.E.Utf16Order.BIG) c.args.raw.now to c.write_run-done.result.read c.write_run-done.result.written)
    (sym c.in-Err.ensures.unchanged) c.write_run-done.ensures.wrote

pub returns-in-Err-clause-wrote : goal.returns-in-Err-clause-wrote
returns-in-Err-clause-wrote g c = kept g (goal.at.returns-in-Err-clause-wrote g c).In-Err

stops : (g : Over) (c : In-Err g)
    → Stops (char_bytes g.E.Utf16Order.BIG) utf32_units (IsIllFormedUtf16 g.E.Utf16Order.BIG) c.args.raw.now c.write_run-done.result.read
    (length c.write_next_char.new.to - c.write_run-done.result.written) c.in-Err.stop
stops g c =
    let big = g.E.Utf16Order.BIG in
    let wrote = kept g c in
    stops_there (char_bytes big) utf32_units (IsUtf16 big) (IsIllFormedAt big) (IsIllFormedUtf16 big) (faults_there big) _ _ _ (search rules)
    (IsUtf16-from_Encodes big _ _ wrote.gives) c.in-Err.stop c.in-Err.ensures.stop

pub returns-in-Err-clause-stop : goal.returns-in-Err-clause-stop
returns-in-Err-clause-stop g c = stops g (goal.at.returns-in-Err-clause-stop g c).In-Err

pub returns-in-Err-clause-succeeds : goal.returns-in-Err-clause-succeeds
returns-in-Err-clause-succeeds g c room full =
    let at = (goal.at.returns-in-Err-clause-succeeds g c).In-Err in
    to_utf32_fits g.E.Utf16Order.BIG _ _ _ _ (kept g at) (subst (Stops (char_bytes g.E.Utf16Order.BIG) utf32_units (IsIllFormedUtf16 g.E.Utf16Order.BIG) _ _ _) full (stops g at)) room
