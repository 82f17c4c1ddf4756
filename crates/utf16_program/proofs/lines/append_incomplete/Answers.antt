use Rattle.std.proofs.Common.{append_assoc}
use Rattle.utf16_program.proofs.lines.append_incomplete.Goals as goal

pub returns : goal.returns
returns g c = simp append_assoc (rw (c.hex.ensures, c.as_bytes.ensures.value, c.format.ensures.text) at c.append.ensures)
