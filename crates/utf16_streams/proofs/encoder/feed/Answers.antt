use Rattle.std.proofs.Common.{◌≡◌, ◌++◌, Bool, List, ℕ, length, take, ap, ◌∙◌, sym, arith}
use Rattle.std.proofs.lemmas.List.{length-take-le}
use Rattle.utf16_units.specs.Encoding.{encode}
use Rattle.utf16_units.proofs.EncodingLemmas.{length-encode}
use Rattle.utf8_bytes.specs.Split.{decided_text}
use Rattle.utf16_transcode.proofs.DecodesUtf8.{flat_encode}
use Rattle.utf16_transcode.specs.Stream.{stream_pending}
use Rattle.utf16_transcode.specs.declared.progress.Stop.TheVariants.{Done}
use Rattle.utf16_streams.proofs.EncoderLemmas.{text_short}
use Rattle.utf16_streams.proofs.encoder.feed.Given.{Over}
use Rattle.utf16_streams.proofs.encoder.feed.Goals as goal
use Rattle.utf16_streams.proofs.encoder.feed.Goals.{After-feed}

module _ (g : Over) (c : After-feed g) where
  abbrev big : Bool
  big = g.E.Utf16Order.BIG

  abbrev pending : List ℕ
  pending = stream_pending c.args.stream.now

  abbrev text : List ℕ
  text = decided_text (pending ++ c.args.piece.now)

  -- the text that is certain fits
  whole : c.feed.result.stop ≡ Done
  whole = c.feed.ensures.done.1 (omega (arith, text_short pending c.args.piece.now c.requires.undecided, length-encode big text, ap length (flat_encode big text), c.requires.space))

  bytes : take c.feed.result.written c.feed.new.to ≡ encode big text
  bytes = c.feed.ensures.text whole ∙ sym (flat_encode big text)

pub returns : goal.returns
returns g c =
    let fed = (goal.at.returns g c).After-feed in
    record {
      bytes = bytes g fed;
      fits = omega (
        arith,
        ap length (bytes g fed) ∙ length-encode (big g fed) (text g fed),
        text_short (pending g fed) c.args.piece.now c.requires.undecided,
        length-take-le c.feed.result.written c.feed.new.to c.feed.ensures.feeds.fits,
      );
      pending = c.feed.ensures.pending (whole g fed);
      undecided = c.feed.ensures.undecided (whole g fed);
    }
