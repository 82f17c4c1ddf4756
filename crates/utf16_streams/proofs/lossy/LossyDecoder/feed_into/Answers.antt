use Rattle.std.proofs.Common.{◌+◌, ◌<◌, ◌≤◌, ◌++◌, length, ⊎_elim, sym, ap, ◌∙◌, arith, length-append, true≢false}
use Rattle.utf16_transcode.proofs.DecodesLemmas.{four_decide, split_tail-again}
use Rattle.std.proofs.lemmas.Bool.{cases_lt}
use Rattle.utf16_units.specs.Split.{split_tail}
use Rattle.utf16_streams.specs.Lossy.{lossy_pending}
use Rattle.utf16_streams.proofs.lossy.LossyDecoder.feed_into.Goals as goal

pub returns-in_err-reserve_text-clause-nothing : goal.returns-in_err-reserve_text-clause-nothing
returns-in_err-reserve_text-clause-nothing g c none = ⊎_elim
    (λ (few : length c.pending.result.now + length c.args.piece.now < 4). absurd (true≢false (sym (c.in_err-reserve_text.ensures.nothing few))))
    (λ (many : 4 ≤ length c.pending.result.now + length c.args.piece.now).
    let long = length-append (lossy_pending c.args.self.now) c.args.piece.now in
    absurd (four_decide _ (lossy_pending c.args.self.now ++ c.args.piece.now) (omega (arith, ap length c.pending.ensures.bytes, long)) none))
    (cases_lt (length c.pending.result.now + length c.args.piece.now) 4)

pub invariant_of-self : goal.invariant_of-self
invariant_of-self g c = record {
  undecided =
      let tail = c.in_ok-self.ensures.tail in
      ap (split_tail g.E.Utf16Order.BIG) tail ∙ split_tail-again _ _ ∙ sym tail;
}
