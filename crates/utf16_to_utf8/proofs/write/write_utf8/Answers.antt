use Rattle.std.proofs.Common.{◌+◌, ◌-◌, ◌++◌, ◌∙◌, ap, ap₂, arith, drop, length, length-append, length-drop, length-take-le, subst, sym, take}
use Rattle.std.proofs.lemmas.List.{take-append-le, take_rest}
use borrow.Rule.Slice.PartMut.{put_mid}
use Rattle.utf16_units.specs.Encoding.{IsUtf16, utf8_of}
use Rattle.utf16_to_utf8.proofs.SpaceLemmas.{few-bytes, utf8-rest, written-fits, written-twice, written-within}
use Rattle.utf16_to_utf8.proofs.write.write_utf8.Goals as goal

pub write_short-requires-2-clause-well_formed : goal.write_short-requires-2-clause-well_formed
write_short-requires-2-clause-well_formed g c =
    let raw = c.args.raw.now in
    let blocks = c.write_blocks-blocks in
    subst (IsUtf16 g.E.Utf16Order.BIG) (sym (take_rest raw blocks.result.read)) (utf8-rest g.E.Utf16Order.BIG raw blocks.result.read c.requires.well_formed blocks.ensures.well_formed).0

pub write_short-requires-2-clause-space : goal.write_short-requires-2-clause-space
write_short-requires-2-clause-space g c =
    let raw = c.args.raw.now in
    let blocks = c.write_blocks-blocks in
    let e = blocks.ensures in
    let less = few-bytes g.E.Utf16Order.BIG raw blocks.new.to _ _ e.well_formed e.within (written-fits blocks.new.to _ _ e.utf8 e.len) e.utf8 in
    omega (
      arith,
      length-take-le _ c.args.to.now c.requires.space,
      ap length (take_rest raw blocks.result.read),
      length-drop blocks.result.read raw,
      ap length (take_rest blocks.new.to blocks.result.written),
      length-drop blocks.result.written blocks.new.to,
      less.0,
      less.1,
      blocks.ensures.within,
      blocks.auto.to,
      c.requires.space,
    )

pub returns-clause-utf8 : goal.returns-clause-utf8
returns-clause-utf8 g c =
    let big = g.E.Utf16Order.BIG in
    let raw = c.args.raw.now in
    let blocks = c.write_blocks-blocks in
    let short = c.write_short-2 in
    let at = blocks.result.written in
    let old = blocks.new.to in
    let within = written-fits old _ at blocks.ensures.utf8 blocks.ensures.len in
    take-append-le (at + short.result) (put_mid at (length old - at) old short.new.out) _ (written-within at short.result old short.new.out within short.ensures.fits)
    ∙ written-twice at short.result old short.new.out within short.ensures.fits
    ∙ ap₂ (λ front back. front ++ back) blocks.ensures.utf8 (short.ensures.utf8 ∙ ap (utf8_of big) (take_rest raw blocks.result.read)) ∙ sym (utf8-rest big raw blocks.result.read c.requires.well_formed blocks.ensures.well_formed).1

pub returns-clause-len : goal.returns-clause-len
returns-clause-len g c =
    let raw = c.args.raw.now in
    let blocks = c.write_blocks-blocks in
    let short = c.write_short-2 in
    let rest = utf8-rest g.E.Utf16Order.BIG raw blocks.result.read c.requires.well_formed blocks.ensures.well_formed in
    omega (
      arith,
      ap length rest.1,
      length-append (utf8_of g.E.Utf16Order.BIG (take blocks.result.read raw)) (utf8_of g.E.Utf16Order.BIG (drop blocks.result.read raw)),
      blocks.ensures.len,
      length-take-le short.result short.new.out short.ensures.fits,
      ap length (short.ensures.utf8 ∙ ap (utf8_of g.E.Utf16Order.BIG) (take_rest raw blocks.result.read)),
    )
