use Rattle.std.proofs.lemmas.Result.{err_from_is_err_and}
use Rattle.utf16_transcode.specs.Transcoded.{SameText}
use Rattle.utf16_transcode.proofs.TranscodedLemmas.{first_does_not_fit, first_gives}
use Rattle.utf16_transcode.proofs.transcoding.write_next_char.Goals as goal

pub returns-in-Some-clause-wrote : goal.returns-in-Some-clause-wrote
returns-in-Some-clause-wrote g c =
    let d = g.D.Direction in
    let first = c.in_ok-c.ensures.char in
    record {
      within = first.within;
      fits = c.in-Some.ensures.within;
      added = _;
      gives = first_gives d.from d.into _ _ _ first (SameText d.IsValid d.other) c.laws.ensures.each_char;
      bytes = c.in-Some.ensures.bytes;
    }

pub returns-in-None-clause-stop : goal.returns-in-None-clause-stop
returns-in-None-clause-stop g c =
    first_does_not_fit g.D.Direction.from g.D.Direction.into _ _ _ c.in_ok-c.ensures.char _ (c.write_char.ensures.none c.in-None.is)

pub returns-in_err-c-clause-stop : goal.returns-in_err-c-clause-stop
returns-in_err-c-clause-stop g c =
    let p = err_from_is_err_and c.from_residual.result c.from_residual.ensures.1 in
    rw (p.1, p.2) (c.in_err-c.ensures.stop _)
