use Rattle.std.proofs.Common.{arith}
use Rattle.utf16_transcode.proofs.decode.ToUtf8Direction.surely_fit.Goals as goal

pub returns : goal.returns
returns g c = omega arith
