use Rattle.std.proofs.Common.{◌∙◌, arith}
use Rattle.utf16_units.specs.Encoding.{text_of}
use Rattle.utf16_units.proofs.BackChar.{size-even}
use Rattle.utf16_units.proofs.EncodingLemmas.{length-text}
use Rattle.utf16_to_utf8.proofs.LenLemmas.{length-utf8}
use Rattle.utf16_to_utf8.proofs.lens.utf8_len.Goals as goal

pub units_len-requires : goal.units_len-requires
units_len-requires g c =
    let big = g.E.Utf16Order.BIG in
    omega (arith, length-text big c.args.raw.now c.requires, size-even (text_of big c.args.raw.now))

pub returns : goal.returns
returns g c = c.units_len.ensures ∙ length-utf8 g.E.Utf16Order.BIG c.args.raw.now c.type_inv.raw c.requires
