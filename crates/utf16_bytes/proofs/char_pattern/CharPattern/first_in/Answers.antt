use Rattle.std.proofs.Common.{subst, sym}
use Rattle.utf16_units.proofs.EncodingLemmas.{encode-one}
use Rattle.utf16_bytes.specs.Occurrence.{IsFirst, IsOccurrence}
use Rattle.utf16_bytes.proofs.char_pattern.CharPattern.first_in.Goals as goal

pub returns-clause-first : goal.returns-clause-first
returns-clause-first g c =
    let big = g.E.Utf16Order.BIG in
    subst (λ part. IsFirst (IsOccurrence big c.args.bytes.now part) c.find_char.result) (sym (encode-one big c.args.self)) c.find_char.ensures.first
