use Rattle.std.proofs.Common.{arith}
use Rattle.utf16_transcode.proofs.TranscodedLemmas.{long_enough}
use Rattle.utf16_transcode.proofs.encode.FromUtf8Direction.write.Goals as goal

pub returns-clause-len : goal.returns-clause-len
returns-clause-len g c = long_enough _ _ _ c.write_text.ensures.bytes (omega (arith, c.write_text.ensures.written_to, c.requires.space))
