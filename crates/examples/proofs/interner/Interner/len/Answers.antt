use Rattle.std.proofs.Common.{◌≡◌, ◌∙◌, ap, arith, length, sym}
use Rattle.utf16_units.proofs.PartsLemmas.{length-parts}
use Rattle.examples.proofs.interner.Interner.len.Goals as goal

pub returns-clause-len : goal.returns-clause-len
returns-clause-len g c =
    let parts : length c.self.inside.ends.items ≡ length c.args.self.now = sym (length-parts _ _ _) ∙ ap length c.self.view_is in
    omega (arith, c.self.inside.ends.ok.0)
