use Rattle.std.proofs.Common.{refl, rules}
use Rattle.utf16_transcode.proofs.TranscodedLemmas.{WritesAt-put, WritesAt-then}
use Rattle.utf16_transcode.proofs.transcoding.write_chars.Goals as goal

pub loop-read-init : goal.loop-read-init
loop-read-init g c =
    let begun = c.begin-begun.ensures.wrote in
    WritesAt-put _ _ _ _ _ _ _ c.requires (search rules) begun.within begun.gives refl begun.fits

pub loop-read-preserved : goal.loop-read-preserved
loop-read-preserved g c = WritesAt-then c.laws.ensures.joins _ _ _ _ _ _ _ _ _ c.loop-read.invariant c.in-Ok.ensures.wrote
