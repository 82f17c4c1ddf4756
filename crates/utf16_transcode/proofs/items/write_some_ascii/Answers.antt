use Rattle.std.proofs.Common.{◌≡◌, ◌*◌, ◌∙◌, ap, arith, length, length-take-le, subst, sym, take, take-take}
use Rattle.std.proofs.lemmas.List.{get_or-take, length-map}
use Rattle.std.specs.Str.{IsAscii}
use Rattle.utf16_transcode.proofs.TranscodedLemmas.{Writes-none}
use Rattle.utf16_transcode.proofs.AsciiFront.{ascii-all, front-low, low-ascii, wrote-front}
use Rattle.utf16_transcode.proofs.FromUtf8Lemmas.{utf16_empty}
use Rattle.utf16_transcode.proofs.items.write_some_ascii.Given.{Over}
use Rattle.utf16_transcode.proofs.items.write_some_ascii.Goals as goal
use Rattle.utf16_transcode.proofs.items.write_some_ascii.Goals.{After-low_bits}

pub returns-then-text-lt16-clause-wrote : goal.returns-then-text-lt16-clause-wrote
returns-then-text-lt16-clause-wrote g c = Writes-none (utf16_empty g.E.Utf16Order.BIG) _ _

pub returns-then-len-lt4-clause-wrote : goal.returns-then-len-lt4-clause-wrote
returns-then-len-lt4-clause-wrote g c = Writes-none (utf16_empty g.E.Utf16Order.BIG) _ _

low : (g : Over) (c : After-low_bits g) → IsAscii c.low_bits.result
low g c = subst (λ b. IsAscii b) (sym c.low_bits.ensures) (low-ascii (take 16 c.args.text.now))

pub write_ascii_block-requires-clause-ascii : goal.write_ascii_block-requires-clause-ascii
write_ascii_block-requires-clause-ascii g c i below = low g c i

pub returns-clause-wrote : goal.returns-clause-wrote
returns-clause-wrote g c =
    let text = c.args.text.now in
    let block = c.low_bits.result in
    let n = c.ascii_len-len.result in
    let ascii = low g (goal.at.returns-clause-wrote g c).After-low_bits in
    let long : length block ≡ 16 = ap length c.low_bits.ensures ∙ length-map (take 16 text) _ ∙ length-take-le 16 text (omega arith) in
    let end : 2 * length block ≡ c.write_ascii_block.result = omega (arith, long, c.write_ascii_block.ensures.written_to) in
    let front = ap (take n) c.low_bits.ensures ∙ front-low (take 16 text) n (ascii-all _ c.ascii_len-len.ensures.ascii) ∙ take-take n 16 text c.ascii_len-len.ensures.few in
    wrote-front g.E.Utf16Order.BIG text block c.write_ascii_block.new.out n (omega (arith, c.ascii_len-len.ensures.few)) front (omega (arith, long, c.ascii_len-len.ensures.few)) ascii (omega (arith, long, c.write_ascii_block.auto.out))
    (ap (λ k. take k c.write_ascii_block.new.out) end ∙ c.write_ascii_block.ensures.bytes)

pub returns-clause-most : goal.returns-clause-most
returns-clause-most g c some few =
    let n = c.ascii_len-len.result in
    omega (arith, c.ascii_len-len.ensures.stop few, get_or-take 16 c.args.text.now n 0 few)
