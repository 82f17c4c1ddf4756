-- What tests of a `Bool` and of an `Option` mean.
use Rattle.std.proofs.Common.{◌≡◌, ◌↔◌, ℕ, Bool, false, IsTrue, List, length, take, nat_eq, Option, None, Some, is_some, refl, sym, true≢false}
use Rattle.std.proofs.lemmas.Bool.Decides.{Decides-eqb}
use Rattle.std.proofs.lemmas.Slice.Eq.{slice_eq-Decides}
use Rattle.std.specs.List.{starts_with}

-- an option that tests as `None` is `None`
pub none_from_test : (o : Option ℕ) → is_some o ≡ false → o ≡ None
none_from_test None e = refl
none_from_test (Some n) e = absurd (true≢false e)

-- what the test of `starts_with` decides, as an equation
pub starts_stands : (bytes part : List ℕ) (r : Bool) → r ≡ starts_with nat_eq bytes part → (IsTrue r ↔ (take (length part) bytes ≡ part))
starts_stands bytes part r test =
    let decides = slice_eq-Decides Decides-eqb part (take (length part) bytes) r test in
    (λ yes. sym (decides.0 yes), λ same. decides.1 (sym same))
