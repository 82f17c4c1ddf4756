use Rattle.utf16_units.specs.Edit.{overwrite_at}
use Rattle.utf16_units.specs.Encoding.{Encodes}
use Rattle.utf16_units.proofs.EditLemmas.{checked-Encodes}
use Rattle.utf16_units.proofs.EncodingLemmas.{text_of-Encodes}
use Rattle.utf16_str.specs.WStr.{wstr_text}
use Rattle.utf16_str.specs.WStrMut.{wstr_mut_text}
use Rattle.utf16_str.proofs.Overwritten.{Encodes-over, over-within}
use Rattle.utf16_str.proofs.wstr_mut.WStrMut.overwrite.Given.{Over}
use Rattle.utf16_str.proofs.wstr_mut.WStrMut.overwrite.Goals as goal
use Rattle.utf16_str.proofs.wstr_mut.WStrMut.overwrite.Goals.{After-overwrite_bytes}

over : (g : Over) (c : After-overwrite_bytes g)
    → Encodes g.E.Utf16Order.BIG (overwrite_at (wstr_mut_text c.args.self.now) c.args.idx (wstr_text c.args.text)) c.overwrite_bytes.new.raw
over g c =
    Encodes-over _ _ _ _ c.args.idx c.args.self.now.well_formed c.as_bytes.ensures.encoding c.requires.end
    c.overwrite_bytes.new.raw c.requires.start c.overwrite_bytes.ensures.bytes

pub overwrite_bytes-requires : goal.overwrite_bytes-requires
overwrite_bytes-requires g c = over-within _ _ _ _ c.args.idx c.args.self.now.well_formed c.as_bytes.ensures.encoding c.requires.end

pub invariant_of-self : goal.invariant_of-self
invariant_of-self g c = record { well_formed = checked-Encodes _ _ _ (over g (goal.at.invariant_of-self g c).After-overwrite_bytes) }

pub returns-clause-text : goal.returns-clause-text
returns-clause-text g c = text_of-Encodes _ _ _ (over g (goal.at.returns-clause-text g c).After-overwrite_bytes)
