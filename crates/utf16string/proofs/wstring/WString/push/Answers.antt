use Rattle.utf16_units.proofs.EditLemmas.{Encodes-char, Encodes-pushed}
use Rattle.utf16string.proofs.Edited.{edited_text, still_text}
use Rattle.utf16string.proofs.wstring.WString.push.Goals as goal

pub invariant_of-self : goal.invariant_of-self
invariant_of-self g c =
    let pushed = Encodes-pushed _ _ _ _ c.args.self.now.well_formed (Encodes-char _ c.args.ch c.ranges.ch.0) in
    record { well_formed = still_text _ _ _ _ _ c.args.self.now.well_formed pushed (λ left. left.0.0) c.push_char.result c.push_char.ensures.items c.push_char.ensures.err }

pub returns-clause-text : goal.returns-clause-text
returns-clause-text g c =
    let pushed = Encodes-pushed _ _ _ _ c.args.self.now.well_formed (Encodes-char _ c.args.ch c.ranges.ch.0) in
    edited_text _ _ _ _ _ c.args.self.now.well_formed pushed c.push_char.result c.push_char.ensures.items
