use Rattle.std.proofs.Common.{◌∙◌, arith, sym}
use Rattle.uses_buffers.proofs.FormLemmas.{strict_joined_there}
use Rattle.uses_buffers.proofs.small_buffer.StrictBufferCall.laws.Goals as goal

pub returns-clause-joined : goal.returns-clause-joined
returns-clause-joined g c =
    let d = g.D.Direction in
    strict_joined_there d.from d.into d.IsValid d.other d.IsIllFormedAt d.IsIllFormed c.laws.ensures.joins c.laws.ensures.ill_formed c.laws.ensures.there

pub returns-clause-short : goal.returns-clause-short
returns-clause-short g c input n left full = omega (arith, full.too_long, c.laws.ensures.short full.char)

pub returns-clause-nothing : goal.returns-clause-nothing
returns-clause-nothing g c input out given = given.1 ∙ sym c.laws.ensures.of_nothing.1
