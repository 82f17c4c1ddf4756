use Rattle.std.proofs.Common.{subst, sym}
use Rattle.utf16_units.proofs.EncodingLemmas.{encode-one}
use Rattle.utf16_bytes.specs.Occurrence.{IsLast, IsOccurrence}
use Rattle.utf16_bytes.proofs.char_pattern.CharPattern.last_in.Goals as goal

pub returns-clause-last : goal.returns-clause-last
returns-clause-last g c =
    let big = g.E.Utf16Order.BIG in
    subst (λ part. IsLast (IsOccurrence big c.args.bytes.now part) c.rfind_char.result) (sym (encode-one big c.args.self)) c.rfind_char.ensures.last
