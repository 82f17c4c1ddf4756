use Rattle.std.proofs.Common.{sym, subst}
use Rattle.utf16_units.specs.Encoding.{IsUtf16}
use Rattle.utf16_units.proofs.EncodingLemmas.{IsUtf16-char}
use Rattle.utf16_transcode.proofs.ToUtf8Lemmas.{begins}
use Rattle.utf16_transcode.proofs.decode.ToUtf8Direction.first_char.Goals as goal

pub first_char-requires-clause-well_formed : goal.first_char-requires-clause-well_formed
first_char-requires-clause-well_formed g c =
    let big = g.E.Utf16Order.BIG in
    let first = c.in_ok-len.ensures.char in
    subst (IsUtf16 big) (sym first.spelled) (IsUtf16-char big first.char first.scalar)

pub returns-clause-char : goal.returns-clause-char
returns-clause-char g c =
    begins g.E.Utf16Order.BIG c.args.rest.now c.in_ok-len.len c.first_char.result.0 c.first_char.result.1 c.in_ok-len.ensures.char
    c.first_char.ensures.size c.first_char.ensures.joined
