use Rattle.std.proofs.Common.{◌+◌, ◌++◌, drop, take, ap, ap₂, ◌∙◌}
use Rattle.std.proofs.lemmas.List.{map-id}
use Rattle.std.specs.List.{flat_map}
use Rattle.std.specs.Simd.Lanes.{put_chunk}
use Rattle.utf16_units.specs.Unit.{unit_bytes}
use Rattle.utf16_from_utf8.proofs.AsciiLemmas.{after_both, ascii-text, halves_stored}
use Rattle.utf16_from_utf8.proofs.ascii.write_ascii_block.Goals as goal

pub returns-clause-bytes : goal.returns-clause-bytes
returns-clause-bytes g c =
    let big = g.E.Utf16Order.BIG in
    let at = c.args.at in
    let out = c.args.out.now in
    let units = c.bytes16-units.ensures in
    ap₂ (λ first second. take (at + 32) (put_chunk (at + 16) (put_chunk at out first) second)) c.halves.ensures.first c.halves.ensures.second
    ∙ halves_stored at c.bytes16-units.result out units.len c.requires.space
    ∙ ap (λ t. take at out ++ t) (units.bytes ∙ ap (flat_map (unit_bytes big)) (map-id c.args.block) ∙ ascii-text big c.args.block c.fits-block.0 c.requires.ascii)

pub returns-clause-rest : goal.returns-clause-rest
returns-clause-rest g c =
    let at = c.args.at in
    let out = c.args.out.now in
    ap₂ (λ first second. drop (at + 32) (put_chunk (at + 16) (put_chunk at out first) second)) c.halves.ensures.first c.halves.ensures.second
    ∙ after_both at c.bytes16-units.result out c.bytes16-units.ensures.len
