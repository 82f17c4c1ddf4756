use Rattle.utf16_transcode.proofs.TranscodedLemmas.{WritesAt-then}
use Rattle.utf16_transcode.proofs.transcoding.write_near_end.Goals as goal

pub returns : goal.returns
returns g c = WritesAt-then c.laws.ensures.joins _ _ _ _ _ _ _ _ _ c.write_buffered_block-block.ensures c.write_buffered_text-few.ensures
