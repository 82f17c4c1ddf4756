use Rattle.std.proofs.Common.{refl, rules}
use Rattle.utf16_transcode.specs.Transcoded.{SameText, WritesAt}
use Rattle.utf16_transcode.proofs.TranscodedLemmas.{WritesAt-none, WritesAt-put, WritesAt-then}
use Rattle.utf16_transcode.proofs.transcoding.write_piece.Given.{Over}
use Rattle.utf16_transcode.proofs.transcoding.write_piece.Goals as goal
use Rattle.utf16_transcode.proofs.transcoding.write_piece.Goals.{Joined-rest-FRONT_LEN, then-rest-FRONT_LEN, else-rest-FRONT_LEN}

-- what is validated while it is written
front : (g : Over) (c : Joined-rest-FRONT_LEN g) → let now = c.if-rest-FRONT_LEN in
    WritesAt (SameText g.D.Direction.IsValid g.D.Direction.other) c.args.rest.now c.args.to.now now.to c.args.at now.read now.end
front g c = elim c.if-rest-FRONT_LEN.branch [
  | then-rest-FRONT_LEN w ↦
      let wrote = w.write_front-front.ensures.wrote in
      rw (w.to-is, w.read-is, w.end-is) (WritesAt-put _ _ _ _ _ _ _ c.requires (search rules) wrote.within wrote.gives refl wrote.fits)
  | else-rest-FRONT_LEN w ↦ rw (w.to-is, w.read-is, w.end-is) (WritesAt-none c.laws.ensures.of_nothing _ _ _ _ c.requires refl)
]

pub returns-then-read-rest : goal.returns-then-read-rest
returns-then-read-rest g c = front g (goal.at.returns-then-read-rest g c).Joined-rest-FRONT_LEN

pub returns : goal.returns
returns g c = WritesAt-then c.laws.ensures.joins _ _ _ _ _ _ _ _ _ (front g (goal.at.returns g c).Joined-rest-FRONT_LEN) c.write_validated_tail-tail.ensures
