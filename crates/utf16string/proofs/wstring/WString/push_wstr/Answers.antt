use Rattle.utf16_units.proofs.EditLemmas.{Encodes-pushed}
use Rattle.utf16string.proofs.Edited.{edited_text, still_text}
use Rattle.utf16string.proofs.wstring.WString.push_wstr.Goals as goal

pub invariant_of-self : goal.invariant_of-self
invariant_of-self g c =
    let pushed = Encodes-pushed _ _ _ _ c.args.self.now.well_formed c.as_bytes.ensures.encoding in
    record { well_formed = still_text _ _ _ _ _ c.args.self.now.well_formed pushed (λ left. left.0.0) c.append.result c.append.ensures.items c.append.ensures.err }

pub returns-clause-text : goal.returns-clause-text
returns-clause-text g c =
    let pushed = Encodes-pushed _ _ _ _ c.args.self.now.well_formed c.as_bytes.ensures.encoding in
    edited_text _ _ _ _ _ c.args.self.now.well_formed pushed c.append.result c.append.ensures.items
