use Rattle.std.proofs.Common.{refl}
use Rattle.utf16_units.proofs.EncodingLemmas.{Encodes-text_of, is_utf16-from_IsUtf16}
use Rattle.utf16_str.proofs.wstr_mut.WStrMut.from_utf16_unchecked.Goals as goal

pub invariant_of-result : goal.invariant_of-result
invariant_of-result g c = record { well_formed = is_utf16-from_IsUtf16 _ _ c.requires }

pub returns-clause-encoding : goal.returns-clause-encoding
returns-clause-encoding g c = Encodes-text_of _ _ c.requires

pub returns-clause-bytes : goal.returns-clause-bytes
returns-clause-bytes g c = refl

pub returns-clause-same_reference : goal.returns-clause-same_reference
returns-clause-same_reference g c = refl
