use Rattle.std.proofs.Common.{arith}
use Rattle.utf16_units.proofs.EditLemmas.{Encodes-char, Encodes-checked, Encodes-inserted, boundary-within}
use Rattle.utf16string.proofs.Edited.{edited_text, still_text}
use Rattle.utf16string.proofs.wstring.WString.insert.Goals as goal

pub insert_char-requires : goal.insert_char-requires
insert_char-requires g c =
    let vec = c.args.self.now.raw in
    omega (arith, boundary-within _ _ c.args.idx c.args.self.now.well_formed c.requires, vec.ok.0)

pub invariant_of-self : goal.invariant_of-self
invariant_of-self g c =
    let inserted = Encodes-inserted _ _ _ _ _ _ (Encodes-checked _ _ c.args.self.now.well_formed) c.requires (Encodes-char _ c.args.ch c.ranges.ch.0) in
    record { well_formed = still_text _ _ _ _ _ c.args.self.now.well_formed inserted (λ left. left.0.0) c.insert_char.result c.insert_char.ensures.items c.insert_char.ensures.err }

pub returns-clause-text : goal.returns-clause-text
returns-clause-text g c =
    let inserted = Encodes-inserted _ _ _ _ _ _ (Encodes-checked _ _ c.args.self.now.well_formed) c.requires (Encodes-char _ c.args.ch c.ranges.ch.0) in
    edited_text _ _ _ _ _ c.args.self.now.well_formed inserted c.insert_char.result c.insert_char.ensures.items
