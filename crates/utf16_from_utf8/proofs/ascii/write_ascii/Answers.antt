use Rattle.std.proofs.Common.{◌∙◌, ◌+◌, ◌≡◌, [], ap, arith, slice_index, sym, true≢false}
use Rattle.std.proofs.lemmas.List.{get_or-take}
use Rattle.utf16_from_utf8.proofs.AsciiLemmas.{none-written}
use Rattle.utf16_from_utf8.proofs.ascii.write_ascii.Goals as goal
use Rattle.utf16_from_utf8.proofs.ascii.write_ascii.Goals.{then-bytes-lt16-via-then-bytes-lt16, then-bytes-lt16-via-else-bytes-lt16+then-not-is_ascii}

pub returns-then-bytes-lt16-clause-bytes : goal.returns-then-bytes-lt16-clause-bytes
returns-then-bytes-lt16-clause-bytes g c = (none-written g.E.Utf16Order.BIG [] c.args.out.now).wrote

pub returns-then-bytes-lt16-clause-whole : goal.returns-then-bytes-lt16-clause-whole
returns-then-bytes-lt16-clause-whole g c some ascii = elim c.then-bytes-lt16.branch [
  | then-bytes-lt16-via-then-bytes-lt16 w ↦ absurd (omega (arith, w.if-bytes-lt16.true, some))
  | then-bytes-lt16-via-else-bytes-lt16+then-not-is_ascii w ↦
      absurd (true≢false (sym (w.is_ascii.ensures.1 (λ i below. omega (arith, ascii i, get_or-take 16 c.args.bytes.now i 0 below))) ∙ w.if-not-is_ascii.true))
]

pub write_narrow_block-at-requires-clause-ascii : goal.write_narrow_block-at-requires-clause-ascii
write_narrow_block-at-requires-clause-ascii g c i below =
    let here : 0 + i ≡ i = omega arith in
    omega (arith, ap (slice_index c.args.bytes.now) here, get_or-take 16 c.args.bytes.now i 0 below, c.is_ascii.ensures.0 c.if-not-is_ascii.false i below)

pub returns-then-bytes-lt32-clause-ascii : goal.returns-then-bytes-lt32-clause-ascii
returns-then-bytes-lt32-clause-ascii g c = (c.write_last_block.ensures.written _ (c.write_narrow_block-at.ensures.written _ (none-written g.E.Utf16Order.BIG c.args.bytes.now c.args.out.now))).ascii

pub returns-then-bytes-lt32-clause-bytes : goal.returns-then-bytes-lt32-clause-bytes
returns-then-bytes-lt32-clause-bytes g c = (c.write_last_block.ensures.written _ (c.write_narrow_block-at.ensures.written _ (none-written g.E.Utf16Order.BIG c.args.bytes.now c.args.out.now))).wrote

pub returns-then-bytes-lt32-clause-rest : goal.returns-then-bytes-lt32-clause-rest
returns-then-bytes-lt32-clause-rest g c = (c.write_last_block.ensures.written _ (c.write_narrow_block-at.ensures.written _ (none-written g.E.Utf16Order.BIG c.args.bytes.now c.args.out.now))).rest
