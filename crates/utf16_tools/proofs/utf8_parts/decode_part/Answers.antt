use Rattle.std.proofs.Common.{◌≡◌, ◌++◌, length, take, sym, ap, ◌∙◌, arith}
use Rattle.utf16_units.specs.Encoding.{Encodes, text_of}
use Rattle.utf16_units.proofs.EncodingLemmas.{IsUtf16-from_Encodes, length-encode, text_of-Encodes}
use Rattle.utf8_bytes.specs.Split.{decided_text}
use Rattle.utf16_transcode.specs.Stream.{stream_pending}
use Rattle.utf16_transcode.specs.declared.progress.Stop.TheVariants.{Done}
use Rattle.utf16_transcode.proofs.DecodesUtf8.{flat_encode}
use Rattle.utf16_transcode.proofs.FeedsUtf8.{enough_after_tail}
use Rattle.utf16_tools.proofs.Utf8PartLemmas.{IsTail-pending, fed_encodes}
use Rattle.utf16_tools.proofs.utf8_parts.decode_part.Given.{Over}
use Rattle.utf16_tools.proofs.utf8_parts.decode_part.Goals as goal
use Rattle.utf16_tools.proofs.utf8_parts.decode_part.Goals.{After-feed-written}

-- the text that is certain fits
whole : (g : Over) (c : After-feed-written g) → c.feed-written.result.stop ≡ Done
whole g c =
    let text = decided_text (stream_pending c.args.stream ++ c.args.part.now) in
    c.feed-written.ensures.done.1 (omega (
      arith,
      enough_after_tail (stream_pending c.args.stream) c.args.part.now (length c.args.buffer.now) (IsTail-pending _ c.requires.undecided) c.requires.space,
      length-encode g.E.Utf16Order.BIG text,
      ap length (flat_encode g.E.Utf16Order.BIG text),
    ))

encodes : (g : Over) (c : After-feed-written g) → Encodes g.E.Utf16Order.BIG (decided_text (stream_pending c.args.stream ++ c.args.part.now)) (take c.feed-written.result.written c.feed-written.new.to)
encodes g c = fed_encodes g.E.Utf16Order.BIG (stream_pending c.args.stream ++ c.args.part.now) _ (c.feed-written.ensures.text (whole g c))

pub from_utf16_unchecked-requires : goal.from_utf16_unchecked-requires
from_utf16_unchecked-requires g c =
    IsUtf16-from_Encodes _ _ _ (encodes g (goal.at.from_utf16_unchecked-requires g c).After-feed-written)

pub returns-clause-text : goal.returns-clause-text
returns-clause-text g c =
    ap (text_of g.E.Utf16Order.BIG) c.from_utf16_unchecked.ensures.bytes
    ∙ text_of-Encodes _ _ _ (encodes g (goal.at.returns-clause-text g c).After-feed-written)

pub returns-clause-len : goal.returns-clause-len
returns-clause-len g c =
    ap length c.from_utf16_unchecked.ensures.bytes ∙ ap length (sym (encodes g (goal.at.returns-clause-len g c).After-feed-written).spelled)
    ∙ length-encode _ _

pub returns-clause-pending : goal.returns-clause-pending
returns-clause-pending g c = c.feed-written.ensures.pending (whole g (goal.at.returns-clause-pending g c).After-feed-written)
