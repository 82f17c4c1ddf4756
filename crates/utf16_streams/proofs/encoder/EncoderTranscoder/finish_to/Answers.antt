use Rattle.std.proofs.Common.{◌≡◌, ◌+◌, ◌≤◌, [], ◌++◌, length, take, sym, ap, ◌∙◌, arith}
use Rattle.std.proofs.lemmas.List.{length-take-le}
use Rattle.utf16_units.proofs.EncodingLemmas.{length-encode}
use Rattle.utf8_bytes.specs.Split.{whole_lossy_chars}
use Rattle.utf16_transcode.specs.declared.progress.Stop.TheVariants.{Done}
use Rattle.utf16_transcode.specs.Stream.{stream_pending}
use Rattle.utf16_streams.specs.Encoder.{entire, whole_utf16, with_bom}
use Rattle.utf16_streams.proofs.EncoderLemmas.{end_short, whole-end}
use Rattle.utf16_streams.proofs.encoder.EncoderTranscoder.finish_to.Given.{Over}
use Rattle.utf16_streams.proofs.encoder.EncoderTranscoder.finish_to.Goals as goal
use Rattle.utf16_streams.proofs.encoder.EncoderTranscoder.finish_to.Goals.{After-finish_utf8-len}

module _ (g : Over) (c : After-finish_utf8-len g) where
  text : take c.finish_utf8-len.result.written c.finish_utf8-len.new.to ≡ whole_utf16 g.E.Utf16Order.BIG (stream_pending c.args.self.stream ++ [])
  text =
      let short = end_short (stream_pending c.args.self.stream) in
      let done : c.finish_utf8-len.result.stop ≡ Done = c.finish_utf8-len.ensures.done.1 (omega arith) in
      c.finish_utf8-len.ensures.text done ∙ sym (whole-end g.E.Utf16Order.BIG c.args.self.bom_due _ c.args.self.undecided)

  fits : c.finish_utf8-len.result.written + 2 ≤ length c.finish_utf8-len.new.to
  fits =
      let short = end_short (stream_pending c.args.self.stream) in
      let done : c.finish_utf8-len.result.stop ≡ Done = c.finish_utf8-len.ensures.done.1 (omega arith) in
      omega (arith, short, length-encode g.E.Utf16Order.BIG (whole_lossy_chars [] (stream_pending c.args.self.stream)), ap length (c.finish_utf8-len.ensures.text done), length-take-le c.finish_utf8-len.result.written c.finish_utf8-len.new.to c.finish_utf8-len.ensures.within)

pub write_bom-requires : goal.write_bom-requires
write_bom-requires g c = fits g (goal.at.write_bom-requires g c).After-finish_utf8-len

pub returns-then-self-clause-bytes : goal.returns-then-self-clause-bytes
returns-then-self-clause-bytes g c =
    let bytes = stream_pending c.args.self.stream ++ [] in
    c.write_bom.ensures.bytes ∙ ap (with_bom g.E.Utf16Order.BIG) (text g (goal.at.returns-then-self-clause-bytes g c).After-finish_utf8-len)
    ∙ ap (λ due. entire due g.E.Utf16Order.BIG bytes) (sym c.if-self.true)

pub returns-else-self-clause-bytes : goal.returns-else-self-clause-bytes
returns-else-self-clause-bytes g c =
    let bytes = stream_pending c.args.self.stream ++ [] in
    text g (goal.at.returns-else-self-clause-bytes g c).After-finish_utf8-len ∙ ap (λ due. entire due g.E.Utf16Order.BIG bytes) (sym c.if-self.false)
