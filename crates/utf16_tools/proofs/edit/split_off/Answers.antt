use Rattle.std.proofs.Common.{inl, refl, rules}
use Rattle.utf16_tools.proofs.edit.split_off.Goals as goal

pub returns-in-Ok-clause-step : goal.returns-in-Ok-clause-step
returns-in-Ok-clause-step g c = inl (c.requires, (c.in-Ok.rest, refl, search rules, search rules))
