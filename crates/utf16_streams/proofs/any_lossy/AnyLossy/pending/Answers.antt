use Rattle.std.proofs.Common.{sym, ap, ap₂, ◌∙◌, rules}
use Rattle.utf16_streams.specs.AnyLossy.{state_byte_order}
use Rattle.utf16_streams.specs.Bom.{tail_in}
use Rattle.utf16_streams.proofs.BomLemmas.{first_slice, first_tail}
use Rattle.utf16_streams.proofs.any_lossy.AnyLossy.pending.Goals as goal

pub returns-in-Undecided-clause-undecided : goal.returns-in-Undecided-clause-undecided
returns-in-Undecided-clause-undecided c =
    let slice = first_slice c.in-Undecided.first _ c.as_slice-pending.ensures in
    ap₂ tail_in (ap state_byte_order c.in-Undecided.is) slice ∙ first_tail c.in-Undecided.first ∙ sym slice

pub returns-in-Little-clause-bytes : goal.returns-in-Little-clause-bytes
returns-in-Little-clause-bytes c = search rules

pub returns-in-Little-clause-undecided : goal.returns-in-Little-clause-undecided
returns-in-Little-clause-undecided c = search rules
