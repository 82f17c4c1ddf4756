-- Two filters, one after the other.
use Rattle.std.proofs.Common.{◌≡◌, ℕ, List, [], ◌++◌, Option, Some, None, sym, ap, subst, ◌∙◌, append-nil}
use Rattle.std.specs.Io.KnownBytes.{Appends, Consumes, IsAtEnd}

-- a reader that was read to its end gave all that it had
all_read : (old left : Option (List ℕ)) (bytes read : List ℕ) → old ≡ Some bytes → Consumes old left read → IsAtEnd left → read ≡ bytes
all_read old None bytes read e consumed ended = absurd (subst (λ o. Consumes o None read) e consumed)
all_read old (Some rest) bytes read e consumed ended =
    let joined : bytes ≡ read ++ rest = subst (λ o. Consumes o (Some rest) read) e consumed in
    sym (joined ∙ ap (λ l. read ++ l) ended ∙ append-nil read)

-- a writer that began with nothing has what was written
all_written : (old new : Option (List ℕ)) (bytes : List ℕ) → old ≡ Some [] → Appends old new bytes → new ≡ Some bytes
all_written old None bytes e appended = absurd (subst (λ o. Appends o None bytes) e appended)
all_written old (Some now) bytes e appended = ap Some (subst (λ o. Appends o (Some now) bytes) e appended)

-- a filter whose output is `whole`, and one that reads what it wrote, whose output is `all`
pub both : (whole all : List ℕ → List ℕ) (input left old mid input2 left2 old2 new2 : Option (List ℕ)) (bytes : List ℕ)
    → (b : List ℕ) × Consumes input left b × IsAtEnd left × Appends old mid (whole b)
    → (b : List ℕ) × Consumes input2 left2 b × IsAtEnd left2 × Appends old2 new2 (all b)
    → input ≡ Some bytes → old ≡ Some [] → input2 ≡ mid → all (whole bytes) ≡ bytes → Appends old2 new2 bytes
both whole all input left old mid input2 left2 old2 new2 bytes first second whole_input empty passed same =
    let read : first.0 ≡ bytes = all_read input left bytes first.0 whole_input first.1 first.2 in
    let written : mid ≡ Some (whole bytes) = all_written old mid (whole first.0) empty first.3 ∙ ap (λ b. Some (whole b)) read in
    let again : second.0 ≡ whole bytes = all_read input2 left2 (whole bytes) second.0 (passed ∙ written) second.1 second.2 in
    subst (λ b. Appends old2 new2 b) (ap all again ∙ same) second.3
