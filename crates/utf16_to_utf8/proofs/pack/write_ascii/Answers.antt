use Rattle.std.proofs.Common.{◌+◌, ◌<◌, ◌++◌, length, take, sym, ap, ◌∙◌, arith}
use Rattle.std.proofs.lemmas.List.Elements.{All-from_get_or}
use Rattle.std.proofs.lemmas.Simd.{take_more_put_chunk}
use Rattle.utf16_to_utf8.proofs.BlockLemmas.{ascii-units}
use Rattle.utf16_to_utf8.proofs.pack.write_ascii.Goals as goal

pub returns-clause-bytes : goal.returns-clause-bytes
returns-clause-bytes g c before =
    let at = c.args.at in
    let out = c.args.out.now in
    let bytes = c.low_bytes.result in
    take_more_put_chunk at out bytes (at + g.row.N) (omega (arith, ap length c.low_bytes.ensures, c.fits-units.0)) c.requires.space
    ∙ ap (λ bs. take at out ++ bs) (c.low_bytes.ensures ∙ sym (ascii-units before c.args.units (All-from_get_or (λ u. u < 0x80) c.args.units 0 c.requires.ascii)))
