use Rattle.std.proofs.Common.{◌+◌, sym, subst, rules}
use Rattle.utf16_transcode.specs.Transcoded.{SameText, Writes}
use Rattle.utf16_transcode.proofs.TranscodedLemmas.{Writes-then, stops_there}
use Rattle.utf16_transcode.proofs.transcoding.transcode_many.Goals as goal

pub loop-read-init : goal.loop-read-init
loop-read-init g c = c.requires.begun

pub loop-read-preserved : goal.loop-read-preserved
loop-read-preserved g c =
    let joins = c.laws.ensures.joins in
    Writes-then joins _ _ _ _ _ _ _ (Writes-then joins _ _ _ _ _ _ _ c.loop-read.invariant c.write_piece-piece.ensures) c.in-Ok.ensures.wrote

pub returns-in-Err-write_next_char-clause-wrote : goal.returns-in-Err-write_next_char-clause-wrote
returns-in-Err-write_next_char-clause-wrote g c =
    subst (λ to. Writes (SameText g.D.Direction.IsValid g.D.Direction.other) c.args.input.now to (c.loop-read.read + c.write_piece-piece.result.read) c.write_piece-piece.result.written) (sym c.in-Err-write_next_char.ensures.unchanged)
    (Writes-then c.laws.ensures.joins _ _ _ _ _ _ _ c.loop-read.invariant c.write_piece-piece.ensures)

pub returns-in-Err-write_next_char-clause-stop : goal.returns-in-Err-write_next_char-clause-stop
returns-in-Err-write_next_char-clause-stop g c =
    let here = Writes-then c.laws.ensures.joins _ _ _ _ _ _ _ c.loop-read.invariant c.write_piece-piece.ensures in
    let within = here.within in
    let left = c.if-read-input.false in
    let d = g.D.Direction in
    stops_there d.from d.into d.IsValid d.IsIllFormedAt d.IsIllFormed c.laws.ensures.ill_formed _ _ _ (search rules) here.gives.0 c.in-Err-write_next_char.stop c.in-Err-write_next_char.ensures.stop

pub returns-then-read-input-clause-wrote : goal.returns-then-read-input-clause-wrote
returns-then-read-input-clause-wrote g c = Writes-then c.laws.ensures.joins _ _ _ _ _ _ _ c.loop-read.invariant c.write_piece-piece.ensures

pub returns-in-Err-clause-stop : goal.returns-in-Err-clause-stop
returns-in-Err-clause-stop g c =
    let d = g.D.Direction in
    stops_there d.from d.into d.IsValid d.IsIllFormedAt d.IsIllFormed c.laws.ensures.ill_formed _ _ _ c.requires.some c.requires.begun.gives.0 c.in-Err.stop (c.in-Err.ensures.stop _)
