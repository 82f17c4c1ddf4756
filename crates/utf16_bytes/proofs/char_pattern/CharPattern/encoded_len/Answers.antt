use Rattle.std.proofs.Common.{[], arith}
use Rattle.utf16_units.proofs.EncodingLemmas.{size-cons, size-nil}
use Rattle.utf16_bytes.proofs.char_pattern.CharPattern.encoded_len.Goals as goal

pub returns : goal.returns
returns g c = omega (arith, c.encoded_utf16_len.ensures, size-cons c.args.self [], size-nil)
