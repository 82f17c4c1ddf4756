use Rattle.std.proofs.Common.{arith}
use Rattle.utf16_units.proofs.EditLemmas.{Encodes-checked, Encodes-inserted, boundary-within}
use Rattle.utf16string.proofs.Edited.{edited_text, still_text}
use Rattle.utf16string.proofs.wstring.WString.insert_wstr.Goals as goal

pub insert_bytes-requires : goal.insert_bytes-requires
insert_bytes-requires g c =
    let vec = c.args.self.now.raw in
    omega (arith, boundary-within _ _ c.args.idx c.args.self.now.well_formed c.requires, vec.ok.0)

pub invariant_of-self : goal.invariant_of-self
invariant_of-self g c =
    let inserted = Encodes-inserted _ _ _ _ _ _ (Encodes-checked _ _ c.args.self.now.well_formed) c.requires c.as_bytes.ensures.encoding in
    record { well_formed = still_text _ _ _ _ _ c.args.self.now.well_formed inserted (λ left. left.0.0) c.insert_bytes.result c.insert_bytes.ensures.items c.insert_bytes.ensures.err }

pub returns-clause-text : goal.returns-clause-text
returns-clause-text g c =
    let inserted = Encodes-inserted _ _ _ _ _ _ (Encodes-checked _ _ c.args.self.now.well_formed) c.requires c.as_bytes.ensures.encoding in
    edited_text _ _ _ _ _ c.args.self.now.well_formed inserted c.insert_bytes.result c.insert_bytes.ensures.items
