use Rattle.std.proofs.Common.{◌≡◌, ◌≤◌, length, slice_index, ap, ◌∙◌, subst, arith}
use Rattle.std.proofs.lemmas.Simd.{take_more_put_chunk}
use Rattle.std.specs.Prelude.{min, take}
use Rattle.utf16_units.specs.Encoding.{units_of}
use Rattle.utf16_units.specs.Lanes.{HasLanes}
use Rattle.utf16_transcode.proofs.AsciiLemmas.{ascii_is_text, ascii_written}
use Rattle.utf16_transcode.proofs.ascii.write_ascii_prefix.Goals as goal

pub returns-clause-text : goal.returns-clause-text
returns-clause-text g c =
    let big = g.E.Utf16Order.BIG in
    let raw = c.args.raw.now in
    let units = c.units32-units.ensures in
    let n = c.ascii_len.result in
    let bytes = c.narrowed-bytes in
    let long = subst (λ us. length us ≡ 32) units.units units.len in
    let clamped : HasLanes 32 bytes.result (λ i. min (slice_index (units_of big (take 64 raw)) i) 0xFF) = record {
      len = bytes.ensures.len;
      lanes = λ i lt. bytes.ensures.lanes i lt ∙ c.clamped.ensures.lanes i lt ∙ ap (λ us. min (slice_index us i) 0xFF) units.units;
    } in
    let few = c.ascii_len.ensures.few in
    let ascii = c.ascii_len.ensures.ascii in (
      ascii_is_text big raw bytes.result c.requires.bytes c.type_inv.raw n few long clamped ascii,
      ascii_written big raw bytes.result c.requires.bytes c.type_inv.raw n few long clamped ascii _
          (take_more_put_chunk 0 c.args.to.now bytes.result 32 (omega (arith, bytes.ensures.len)) c.requires.space),
    )

pub returns-clause-stop : goal.returns-clause-stop
returns-clause-stop g c within =
    let n = c.ascii_len.result in
    let lane = c.narrowed-bytes.ensures.lanes n within ∙ c.clamped.ensures.lanes n within in
    subst (λ units. 0x80 ≤ slice_index units n) c.units32-units.ensures.units (omega (arith, c.ascii_len.ensures.stop within, lane))
