use Rattle.std.proofs.Common.{length}
use Rattle.tests_support.proofs.plain.decode.Given as goal

abbrev pub decreases-loop-rest : goal.decreases-loop-rest
decreases-loop-rest g l = length l.rest
