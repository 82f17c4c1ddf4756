use Rattle.std.proofs.Common.{◌++◌, take, ap, ◌∙◌}
use Rattle.utf16_from_utf8.proofs.BlockLemmas.{hold-added}
use Rattle.utf16_from_utf8.proofs.sixteen.write_sixteen.Goals as goal

pub returns-clause-bytes : goal.returns-clause-bytes
returns-clause-bytes g c before2 before1 before =
    c.write_units.ensures.pairs
    ∙ ap (λ t. take c.args.at c.args.out.now ++ t)
    (hold-added g.E.Utf16Order.BIG g.row.MOST before2 before1 c.args.block c.args.b2 c.args.b1 _ _ _ before c.fits-block.0 c.units_of.ensures c.requires.follow)
