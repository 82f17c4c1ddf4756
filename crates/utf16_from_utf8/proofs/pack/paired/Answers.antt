use Rattle.std.proofs.Common.{ap, ◌∙◌, true, false}
use Rattle.utf16_from_utf8.specs.Lanes.{pairs_of}
use Rattle.utf16_from_utf8.proofs.LaneLemmas.{interleaved}
use Rattle.utf16_from_utf8.proofs.pack.paired.Goals as goal

pub returns-then-BIG-clause-pairs : goal.returns-then-BIG-clause-pairs
returns-then-BIG-clause-pairs g c =
    interleaved c.args.highs c.args.lows c.fits-highs.0 c.fits-lows.0 true ∙ ap (λ big. pairs_of big c.args.highs c.args.lows) c.if-BIG.ensures

pub returns-else-BIG-clause-pairs : goal.returns-else-BIG-clause-pairs
returns-else-BIG-clause-pairs g c =
    interleaved c.args.highs c.args.lows c.fits-highs.0 c.fits-lows.0 false ∙ ap (λ big. pairs_of big c.args.highs c.args.lows) c.if-BIG.ensures
