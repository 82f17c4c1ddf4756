use Rattle.std.proofs.Common.{arith}
use Rattle.std.proofs.lemmas.Str.{length-encode}
use Rattle.utf16_transcode.proofs.decode.write_char_at.Goals as goal

pub returns-then-to-at-clause-none : goal.returns-then-to-at-clause-none
returns-then-to-at-clause-none c _ = omega (arith, length-encode c.args.c, c.if-to-at.true)
