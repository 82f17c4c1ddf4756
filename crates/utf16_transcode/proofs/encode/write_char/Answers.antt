use Rattle.std.proofs.Common.{◌≡◌, ◌++◌, length, take, sym, ap, ◌∙◌, arith, rules, take_at}
use Rattle.utf16_units.specs.Encoding.{char_bytes}
use Rattle.utf16_units.proofs.CharLemmas.{length-char_bytes}
use Rattle.utf16_transcode.proofs.TranscodedLemmas.{take-end}
use Rattle.utf16_transcode.proofs.encode.write_char.Goals as goal

pub returns-clause-bytes : goal.returns-clause-bytes
returns-clause-bytes g c =
    let big = g.E.Utf16Order.BIG in
    let n = c.encode_utf16_into.result in
    let part = c.encode_utf16_into.new.buf in
    let char = char_bytes big c.args.c in
    let size : length char ≡ n = length-char_bytes big c.args.c ∙ sym c.encode_utf16_into.ensures.len in
    let front : take n part ≡ char = ap (take n) c.encode_utf16_into.ensures.bytes ∙ take_at char _ n size in
    take-end c.args.at n c.args.to.now part (omega (arith, c.requires)) (search rules) (omega (arith, ap length front, size))
    ∙ ap (λ b. take c.args.at c.args.to.now ++ b) front
