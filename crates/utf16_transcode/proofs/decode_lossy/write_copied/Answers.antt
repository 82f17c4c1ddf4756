use Rattle.std.proofs.Common.{◌≤◌, ◌<◌, ◌⊎◌, encode_utf8_all, inl, inr, length, length-take-le, take, refl, ap, ◌∙◌, ⊎_elim, arith}
use Rattle.std.proofs.lemmas.Bool.{cases_lt}
use Rattle.utf16_units.proofs.BackChar.{length-even}
use Rattle.utf16_units.proofs.EncodingLemmas.{Encodes-text_of, Encodes-unique}
use Rattle.utf16_transcode.proofs.DecodesLemmas.{Decodes-decided, some_decided}
use Rattle.utf16_transcode.proofs.TranscodedLemmas.{enough}
use Rattle.utf16_transcode.proofs.decode_lossy.write_copied.Goals as goal

pub returns-clause-decodes : goal.returns-clause-decodes
returns-clause-decodes g c =
    let raw = c.args.raw.now in
    let m = c.min-most.result in
    let ends = c.write_well_formed-len.ensures.len in
    let text = Encodes-unique _ _ _ _ (Encodes-text_of _ _ c.write_well_formed-len.ensures.well_formed) c.write_well_formed-len.ensures.encoding in
    record {
      within = omega (arith, ends, length-take-le m raw (omega arith));
      fits = enough _ _ _ c.write_utf8.ensures.utf8 c.write_utf8.ensures.len;
      decodes = Decodes-decided _ raw _ m _ refl ends _ _ (c.write_utf8.ensures.utf8 ∙ ap encode_utf8_all text);
    }

pub returns-clause-advances : goal.returns-clause-advances
returns-clause-advances g c some =
    let raw = c.args.raw.now in
    let m = c.min-most.result in
    let front = length-take-le m raw (omega arith) in
    let all : (4 ≤ length (take m raw)) ⊎ (length raw ≤ m) = ⊎_elim
    (λ (few : length raw < 4). inr (omega arith))
    (λ (many : 4 ≤ length raw). inl (omega arith))
    (cases_lt (length raw) 4) in
    let copy = c.write_well_formed-len in
    let more = some_decided g.E.Utf16Order.BIG raw (take m raw) m copy.result refl copy.ensures.len all some in
    omega (arith, more, length-even g.E.Utf16Order.BIG _ copy.ensures.well_formed, length-take-le copy.result copy.new.to (omega (arith, copy.ensures.len)))
