use Rattle.utf16_units.proofs.EditLemmas.{Encodes-checked}
use Rattle.utf16_str.proofs.wstr_mut.WStrMut.into_bytes.Goals as goal

pub returns-clause-encoding : goal.returns-clause-encoding
returns-clause-encoding g c = Encodes-checked _ _ c.args.self.well_formed
