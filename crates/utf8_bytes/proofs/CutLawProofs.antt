-- The proofs of the laws, each under its law's name.
use Rattle.std.proofs.Common.{inl, inr}
use Rattle.utf8_bytes.specs.CutLaws.{CutText, CutsText, TextBoundaries}
use Rattle.utf8_bytes.proofs.CutLemmas.{text_cut}
use Rattle.utf8_bytes.proofs.PartsLemmas.{text_parts}
use Rattle.utf8_bytes.proofs.WellFormedLemmas.{boundary_of_cut}

pub cut_text : CutText
cut_text = text_cut

pub cuts_text : CutsText
cuts_text = text_parts

pub text_boundaries : TextBoundaries
text_boundaries bytes at text = (boundary_of_cut bytes at text, (λ boundary. inr (inl boundary)))
