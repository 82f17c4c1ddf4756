use Rattle.std.proofs.Common.{◌≡◌, inl, inr, ◌++◌, true, false, List, ℕ, length, refl, sym, ap, ◌∙◌, arith, rules}
use Rattle.std.proofs.lemmas.List.{length-take-le, nil_from_length}
use Rattle.utf16_transcode.specs.Stream.{stream_pending}
use Rattle.utf16_streams.specs.Encoder.{decided_utf16, with_bom}
use Rattle.utf16_streams.proofs.EncoderLemmas.{Continues-begun, Continues-same, certain-begun, certain-same}
use Rattle.utf16_streams.proofs.encoder.EncoderTranscoder.feed_to.Given.{Over}
use Rattle.utf16_streams.proofs.encoder.EncoderTranscoder.feed_to.Goals as goal
use Rattle.utf16_streams.proofs.encoder.EncoderTranscoder.feed_to.Goals.{After-feed-len}

module _ (g : Over) (c : After-feed-len g) where
  abbrev added : List ℕ
  added = decided_utf16 g.E.Utf16Order.BIG (stream_pending c.args.self.now.stream ++ c.args.piece.now)

  long : length added ≡ c.feed-len.result
  long = ap length (sym c.feed-len.ensures.bytes) ∙ length-take-le c.feed-len.result c.feed-len.new.to (omega (arith, c.feed-len.ensures.fits))

-- no BOM is due
pub returns-then-not-self-clause-bytes : goal.returns-then-not-self-clause-bytes
returns-then-not-self-clause-bytes g c =
    let not : c.args.self.now.bom_due ≡ false = search rules in
    c.feed-len.ensures.bytes ∙ certain-same g.E.Utf16Order.BIG c.args.self.now.bom_due (stream_pending c.args.self.now.stream) c.args.piece.now _ c.feed-len.ensures.pending (inl not)

pub returns-then-not-self-clause-continues : goal.returns-then-not-self-clause-continues
returns-then-not-self-clause-continues g c =
    let not : c.args.self.now.bom_due ≡ false = search rules in
    Continues-same g.E.Utf16Order.BIG c.args.self.now.bom_due (stream_pending c.args.self.now.stream) c.args.piece.now _ c.feed-len.ensures.pending (inl not)

-- nothing is certain yet
pub returns-then-len-eq0-clause-bytes : goal.returns-then-len-eq0-clause-bytes
returns-then-len-eq0-clause-bytes g c =
    let before = (goal.at.returns-then-len-eq0-clause-bytes g c).After-feed-len in
    let none = nil_from_length (added g before) (long g before ∙ c.if-len-eq0.true) in
    sym none ∙ certain-same g.E.Utf16Order.BIG c.args.self.now.bom_due (stream_pending c.args.self.now.stream) c.args.piece.now _ c.feed-len.ensures.pending (inr none)

pub returns-then-len-eq0-clause-continues : goal.returns-then-len-eq0-clause-continues
returns-then-len-eq0-clause-continues g c =
    let before = (goal.at.returns-then-len-eq0-clause-continues g c).After-feed-len in
    Continues-same g.E.Utf16Order.BIG c.args.self.now.bom_due (stream_pending c.args.self.now.stream) c.args.piece.now _ c.feed-len.ensures.pending (inr (nil_from_length (added g before) (long g before ∙ c.if-len-eq0.true)))

-- the BOM comes first
pub returns-clause-bytes : goal.returns-clause-bytes
returns-clause-bytes g c =
    let due : c.args.self.now.bom_due ≡ true = search rules in
    c.write_bom.ensures.bytes ∙ ap (with_bom g.E.Utf16Order.BIG) c.feed-len.ensures.bytes ∙ certain-begun g.E.Utf16Order.BIG c.args.self.now.bom_due (stream_pending c.args.self.now.stream) c.args.piece.now _ c.feed-len.ensures.pending due
    (λ none. c.if-len-eq0.false (sym (long g (goal.at.returns-clause-bytes g c).After-feed-len) ∙ ap length none))

pub returns-clause-continues : goal.returns-clause-continues
returns-clause-continues g c =
    let due : c.args.self.now.bom_due ≡ true = search rules in
    Continues-begun g.E.Utf16Order.BIG c.args.self.now.bom_due (stream_pending c.args.self.now.stream) c.args.piece.now _ c.feed-len.ensures.pending due
    (λ none. c.if-len-eq0.false (sym (long g (goal.at.returns-clause-continues g c).After-feed-len) ∙ ap length none)) false refl
