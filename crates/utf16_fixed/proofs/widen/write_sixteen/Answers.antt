use Rattle.std.proofs.Common.{◌++◌, ◌∙◌, ap, flat_map, take}
use Rattle.std.proofs.lemmas.List.{map-id}
use Rattle.utf16_units.specs.Unit.{unit_bytes}
use Rattle.utf16_fixed.proofs.CharLemmas.{encode-bytes}
use Rattle.utf16_fixed.proofs.widen.write_sixteen.Goals as goal

pub returns-clause-bytes : goal.returns-clause-bytes
returns-clause-bytes g c =
    let big = g.E.Utf16Order.BIG in
    let block = c.args.block in
    c.put_sixteen.ensures.bytes ∙ ap (λ t. take c.args.at c.args.to.now ++ t) (ap (flat_map (unit_bytes big)) (map-id block) ∙ encode-bytes big block c.fits-block.1)
