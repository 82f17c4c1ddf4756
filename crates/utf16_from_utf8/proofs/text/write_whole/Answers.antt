use Rattle.std.proofs.Common.{ap, arith, length}
use Rattle.utf16_units.proofs.SizeLemmas.{size-le}
use Rattle.utf16_from_utf8.proofs.text.write_whole.Goals as goal

pub write_chars-requires : goal.write_chars-requires
write_chars-requires g c = omega (arith, size-le c.from_utf8_unchecked.result.now c.from_utf8_unchecked.utf8, ap length c.from_utf8_unchecked.ensures, c.requires.space)

pub returns-then-text-lt-FEW_TEXT-clause-written_to : goal.returns-then-text-lt-FEW_TEXT-clause-written_to
returns-then-text-lt-FEW_TEXT-clause-written_to g c =
    omega (arith, c.write_chars.ensures.written_to, size-le c.from_utf8_unchecked.result.now c.from_utf8_unchecked.utf8, ap length c.from_utf8_unchecked.ensures)
