use Rattle.std.proofs.Common.{◌<◌, ℕ, All, arith, sym, ap, ◌∙◌, subst}
use Rattle.std.proofs.lemmas.List.Elements.{All-append, All-from_get_or}
use Rattle.utf8_bytes.specs.Split.{split_tail}
use Rattle.utf16_tools.proofs.Utf8PartLemmas.{split_tail-again}
use Rattle.utf16_tools.proofs.utf8_decoder.Utf8Decoder.feed.Goals as goal

pub invariant_of-self : goal.invariant_of-self
invariant_of-self g c = record {
  undecided =
      let tail = c.in_ok-self.ensures.pending in
      ap split_tail tail ∙ split_tail-again _ ∙ sym tail;
}

pub returns-clause-are_bytes : goal.returns-clause-are_bytes
returns-clause-are_bytes g c =
    let IsByte : ℕ → Type 0 = λ b. b < 256 in
    All-append IsByte _ c.args.piece.now (subst (All IsByte) c.pending.ensures.bytes c.are_bytes.ensures)
    (All-from_get_or IsByte c.args.piece.now 0 (λ k l. omega (arith, c.type_inv.piece k)))
