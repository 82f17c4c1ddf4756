use Rattle.std.proofs.Common.{length, length-take-le, ap, ◌∙◌, arith}
use Rattle.std.specs.Str.{chars}
use Rattle.utf16_units.specs.Encoding.{encode}
use Rattle.utf16_units.proofs.EncodingLemmas.{length-encode}
use Rattle.utf16_from_utf8.proofs.append.append_by.Goals as goal

pub returns-in_err-reserve-clause-succeeds : goal.returns-in_err-reserve-clause-succeeds
returns-in_err-reserve-clause-succeeds g c fits =
    let big = g.E.Utf16Order.BIG in
    let wrote = c.write_text-end.ensures.bytes ∙ ap (λ t. encode big (chars t)) c.as_bytes.ensures.value in
    let long = length-take-le c.write_text-end.result c.write_text-end.new.out (omega (arith, c.write_text-end.ensures.written_to, c.write_text-end.auto.out, c.requires, ap length c.as_bytes.ensures.value)) in
    absurd (omega (arith, c.in_err-reserve.ensures.full, fits, ap length wrote, long, length-encode big (chars c.args.s.now)))
