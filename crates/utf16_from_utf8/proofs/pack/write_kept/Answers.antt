use Rattle.std.proofs.Common.{take}
use Rattle.utf16_from_utf8.proofs.PackLemmas.{kept_pairs-all}
use Rattle.utf16_from_utf8.proofs.pack.write_kept.Goals as goal

pub returns-clause-pairs : goal.returns-clause-pairs
returns-clause-pairs c =
    kept_pairs-all c.args.bits c.args.first c.args.second (take c.args.at c.args.out.now) _ _
    c.fits-first.0 c.write_eight-middle.ensures.pairs c.write_eight.ensures.pairs
