use Rattle.std.proofs.Common.{◌++◌, ◌∙◌, ap, ap₂, flat_map, sym, take}
use Rattle.utf16_units.specs.Unit.{unit_bytes}
use Rattle.utf16_from_utf8.specs.Lanes.{kept_pairs}
use Rattle.utf16_from_utf8.proofs.BlockLemmas.{halves}
use Rattle.utf16_fixed.specs.Pairs.{halved}
use Rattle.utf16_fixed.proofs.CharsLemmas.{kept-chars}
use Rattle.utf16_fixed.proofs.chars.write_eight.Goals as goal

pub returns-clause-bytes : goal.returns-clause-bytes
returns-clause-bytes g c =
    let big = g.E.Utf16Order.BIG in
    let bytes = c.bytes16 in
    let pairs =
    ap₂ (λ x y. x ++ y) c.parts.ensures.first c.parts.ensures.second ∙ sym (halves bytes.result bytes.ensures.len) ∙ bytes.ensures.bytes ∙ ap (flat_map (unit_bytes big)) (c.halved.ensures ∙ ap halved c.lanes_of.ensures.lanes) in
    c.write_kept.ensures.pairs
    ∙ ap (λ t. take c.args.at c.args.to.now ++ t) (ap₂ kept_pairs c.kept_bits.ensures.bits pairs ∙ kept-chars big c.args.chars c.requires.scalars)
