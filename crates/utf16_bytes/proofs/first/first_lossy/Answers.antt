use Rattle.std.proofs.Common.{arith, rules, ap, ◌∙◌, subst}
use Rattle.std.proofs.lemmas.List.{nil_from_length}
use Rattle.utf16_units.specs.IllFormed.{IsIllFormedAt}
use Rattle.utf16_units.specs.Split.{lossy_text}
use Rattle.utf16_bytes.proofs.TextLemmas.{begins_well_formed, lossy-char, lossy-incomplete, lossy-lone, nil_text}
use Rattle.utf16_bytes.proofs.first.first_lossy.Goals as goal

pub first_char-requires-clause-well_formed : goal.first_char-requires-clause-well_formed
first_char-requires-clause-well_formed g c = begins_well_formed _ _ _ (c.in-Ok.ensures.char)

pub returns-in-Ok-clause-first : goal.returns-in-Ok-clause-first
returns-in-Ok-clause-first g c = lossy-char _ _ _ _ _ c.in-Ok.ensures.char c.first_char.ensures.size c.first_char.ensures.joined

pub returns-in-Err-Some-clause-first : goal.returns-in-Err-Some-clause-first
returns-in-Err-Some-clause-first g c =
    lossy-lone _ _ (search rules) _ (λ k. omega (arith, c.type_inv.rest k)) (subst (IsIllFormedAt _ _) c.in-Err-Some.field-0-is c.in-Err-Some.ensures.ill_formed)

pub returns-in-Err-None-clause-first : goal.returns-in-Err-None-clause-first
returns-in-Err-None-clause-first g c = lossy-incomplete _ _ (search rules) (subst (IsIllFormedAt _ _) c.in-Err-None.field-0-is c.in-Err-None.ensures.ill_formed)

pub returns-then-is_empty-clause-none : goal.returns-then-is_empty-clause-none
returns-then-is_empty-clause-none g c = λ none. ap (lossy_text _) (nil_from_length _ (search rules)) ∙ nil_text _
