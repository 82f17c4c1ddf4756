use Rattle.std.proofs.Common.{◌+◌, ◌<◌, false, arith, length, length-take-le, refl, take, ⊎_elim}
use Rattle.utf16_units.specs.Encoding.{text_of}
use Rattle.utf16_units.specs.Lanes.{BlocksStopAt}
use Rattle.utf16_units.proofs.EncodingLemmas.{length-text}
use Rattle.utf16_units.proofs.PieceLemmas.{encodes-le-size}
use Rattle.utf16_transcode.proofs.FrontLemmas.{blocks_pass}
use Rattle.utf16_transcode.proofs.TranscodedLemmas.{enough}
use Rattle.utf16_transcode.proofs.decode.ToUtf8Direction.write_front.Goals as goal

pub write_ascii_from-requires : goal.write_ascii_from-requires
write_ascii_from-requires g c =
    let wrote = c.write_blocks-blocks in
    record {
      within = wrote.ensures.within;
      fits = enough _ _ _ wrote.ensures.utf8 wrote.ensures.len;
      gives = (wrote.ensures.well_formed, wrote.ensures.utf8);
    }

pub returns-clause-most : goal.returns-clause-most
returns-clause-most g c = λ text space.
    let big = g.E.Utf16Order.BIG in
    let raw = c.args.rest.now in
    let wrote = c.write_blocks-blocks in
    let front = take wrote.result.read raw in
    let size = length-text big front wrote.ensures.well_formed in
    let few = encodes-le-size (text_of big front) in
    let read = length-take-le wrote.result.read raw wrote.ensures.within in
    ⊎_elim
    (λ (stops : BlocksStopAt 66 big raw wrote.result.read false).
    omega (arith, blocks_pass big raw wrote.result.read 66 text wrote.ensures.well_formed refl stops, c.write_ascii_from.ensures.more))
    (λ (full : length wrote.new.to < wrote.result.written + 130).
    omega (arith, full, size, few, read, wrote.ensures.len, wrote.ensures.within, space, c.write_ascii_from.ensures.more))
    wrote.ensures.stop
