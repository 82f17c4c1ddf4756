use Rattle.std.proofs.Common.{◌-◌, ◌<◌, flat_map, length, subst}
use Rattle.std.proofs.lemmas.List.{take_rest}
use Rattle.utf16_transcode.specs.Stops.{StopsPartial}
use Rattle.utf16_transcode.proofs.WholeLemmas.{end_does_not_fit}
use Rattle.utf16_transcode.proofs.lossy_transcoding.transcode_lossy.Goals as goal

pub returns-in-None-clause-stop : goal.returns-in-None-clause-stop
returns-in-None-clause-stop g c =
    let parts = g.D.LossyDirection.split in
    let cut = subst (StopsPartial parts _ _ _) c.in-Incomplete.is c.transcode_partial-front.ensures.stop in
    end_does_not_fit parts _ c.lossy_laws.ensures.chunks _ _ cut.1
    (subst (λ tail. length c.write_end.new.to - c.transcode_partial-front.result.written < length (flat_map g.D.LossyDirection.into (parts.at_end tail)))
    (take_rest c.args.input.now c.transcode_partial-front.result.read) (c.write_end.ensures.none c.in-None.is))
