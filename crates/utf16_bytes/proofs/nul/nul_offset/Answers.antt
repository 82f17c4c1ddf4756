use Rattle.std.proofs.Common.{refl}
use Rattle.utf16_bytes.proofs.NulLemmas.{whole-found, whole-none}
use Rattle.utf16_bytes.proofs.nul.nul_offset.Goals as goal

pub returns-then-at-end : goal.returns-then-at-end
returns-then-at-end c = record { first = whole-none c.args.utf16.now _ c.nul_in_units-at.result refl c.nul_in_units-at.ensures c.if-at-end.true }

pub returns-else-at-end : goal.returns-else-at-end
returns-else-at-end c = record { first = whole-found c.args.utf16.now _ c.nul_in_units-at.result refl c.nul_in_units-at.ensures c.if-at-end.false }
