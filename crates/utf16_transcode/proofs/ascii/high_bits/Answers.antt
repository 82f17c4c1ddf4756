use Rattle.utf16_units.proofs.SurrogateLemmas.{class_bits-mask_l}
use Rattle.utf16_transcode.proofs.ascii.high_bits.Goals as goal

pub returns : goal.returns
returns g c = class_bits-mask_l c.args.bytes g.row.N 0x80 0x80 c.fits-bytes.0 c.requires
