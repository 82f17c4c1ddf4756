use Rattle.std.proofs.Common.{◌≡◌, ◌⊎◌, ◌≤◌, inl, inr, [], ◌++◌, length, drop, refl, rules}
use Rattle.utf16_transcode.specs.declared.progress.Stop.TheVariants.{NoSpace}
use Rattle.utf16_transcode.proofs.StreamSteps.{DecodesTo-window, piece_joined, start_joined, start_stops, stops_window}
use Rattle.utf16_transcode.proofs.stream.transcode_joined.Goals as goal
use Rattle.utf16_transcode.proofs.stream.transcode_joined.Goals.{then-front-eq0-via-else-front-eq0+then-eq, then-front-eq0-via-then-front-eq0}

pub returns-then-front-eq0-clause-decodes : goal.returns-then-front-eq0-clause-decodes
returns-then-front-eq0-clause-decodes g c =
    let within : c.loop-read.read ≤ length c.args.pending.now = search rules in
    DecodesTo-window g.D.LossyDirection.split _ c.lossy_laws.ensures.chunks _ _ _ _ _ _ _ _ _ c.loop-read.invariant (start_joined _ _ _ _ within c.joined_start-len.ensures.bytes) c.transcode_partial-front.ensures.decodes (search rules)

pub returns-then-front-eq0-clause-stop : goal.returns-then-front-eq0-clause-stop
returns-then-front-eq0-clause-stop g c =
    let within : c.loop-read.read ≤ length c.args.pending.now = search rules in
    let why : (c.transcode_partial-front.result.stop ≡ NoSpace) ⊎ (drop 4 (drop c.loop-read.read (c.args.pending.now ++ c.args.piece.now)) ≡ []) =
    elim c.then-front-eq0.branch [
      | then-front-eq0-via-then-front-eq0 w ↦
          let none : c.transcode_partial-front.result.read ≡ 0 = search rules in
          start_stops _ _ _ _ within c.joined_start-len.ensures.bytes g.D.LossyDirection.split _ c.lossy_laws.ensures.chunks _ _ _ none c.transcode_partial-front.ensures.stop
      | then-front-eq0-via-else-front-eq0+then-eq w ↦ inl (search rules)
    ] in
    stops_window g.D.LossyDirection.split _ c.lossy_laws.ensures.chunks _ _ _ _ _ _ _ _ _ c.loop-read.invariant (start_joined _ _ _ _ within c.joined_start-len.ensures.bytes) c.transcode_partial-front.ensures.decodes (search rules)
    _ why c.transcode_partial-front.ensures.stop

pub loop-read-preserved : goal.loop-read-preserved
loop-read-preserved g c =
    let within : c.loop-read.read ≤ length c.args.pending.now = search rules in
    DecodesTo-window g.D.LossyDirection.split _ c.lossy_laws.ensures.chunks _ _ _ _ _ _ _ _ _ c.loop-read.invariant (start_joined _ _ _ _ within c.joined_start-len.ensures.bytes) c.transcode_partial-front.ensures.decodes (search rules)

pub returns-clause-decodes : goal.returns-clause-decodes
returns-clause-decodes g c =
    let past : length c.args.pending.now ≤ c.loop-read.read = search rules in
    DecodesTo-window g.D.LossyDirection.split _ c.lossy_laws.ensures.chunks _ _ _ _ _ _ _ _ _ c.loop-read.invariant (piece_joined _ _ _ past) c.transcode_partial-rest.ensures.decodes (search rules)

pub returns-clause-stop : goal.returns-clause-stop
returns-clause-stop g c =
    let past : length c.args.pending.now ≤ c.loop-read.read = search rules in
    stops_window g.D.LossyDirection.split _ c.lossy_laws.ensures.chunks _ _ _ _ _ _ _ _ _ c.loop-read.invariant (piece_joined _ _ _ past) c.transcode_partial-rest.ensures.decodes (search rules)
    _ (inr refl) c.transcode_partial-rest.ensures.stop
