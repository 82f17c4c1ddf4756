-- The results of the checked constructors, and what is owned of them. Assumes `Logic`.
--     tested_tells         of what `tested` gives: the variant, and the machine values
--     Ans                  a constructor's result
--     args, stayed         of `from_utf16`: its type arguments, and the parameter that it keeps
--     made_view            a slice becomes a view in a result, and the clause on bytes holds
--     left_as_it_was       a slice is released, and the clause on bytes holds of an error
use Rattle.utf16_str.proofs.LentSteps.{◌≡◌, length, ℕ, List, [], ◌∷◌, refl, MutBor, Ok, Err, named, Val, of_list, Lft, fobs, fres, coded_list, heres_id, u8, unit, Tuple, unit-field, Laws, of_field, copy_shared, param, param_laws, RattleType, MutSlice, mut_slice_vals, ‵, ◌$◌, move, drop, use0, use1, rewrite, fsplit3, live, Ghosts, Utf16Error, wstr_mut_lent, WStrMut, Args, Dict, a_type, dnil, dcons, bounded, Stays, stay_dropped, SliceRefMutOf, plain, no, Result, Room}
use seplogic.Ra.Ura.{Ura}
use types.Kit.{Goal, Item, Seq, Step, step}
use types.Logic.{Logic}
use denote.Struct.Laws.{unit-laws as field-unit-laws, unit-copy}
use Rattle.std.specs.contracts.result.Result as RS
use Rattle.std.proofs.result.Result.TheLaws.{the_row_laws as the_result_laws}
use Rattle.utf16_units.specs.contracts.error.Utf16Error as Error
use Rattle.utf16_units.proofs.error.Utf16Error.TheLaws.{the_row_laws as the_error_laws}
use Rattle.utf16_str.proofs.Lent.{Unchanged, View, view_val, said, rests, made}
use Rattle.utf16_str.proofs.LentValues.{IsTyped, pair_is, pair_tells, result_tells, Ok-of, Err-of}
use denote.Slice.{slice_val}
use mir.Val.{vstruct}
use Rattle.utf16_str.specs.contracts.wstr_mut.WStrMut.from_utf16 as F
use Rattle.utf16_str.proofs.wstr_mut.WStrMut.TheLaws.{the_row_laws as the_view_laws}

abbrev Tested : RattleType
Tested = RS.the_row unit Error.the_row

abbrev pub Pair : Lft → RattleType
Pair κ = Tuple (Tested ∷ MutSlice (named 0) κ u8 ∷ [])

unit-laws : Laws unit
unit-laws = of_field unit-field field-unit-laws refl (copy_shared unit-field unit-copy)

Tested-laws : Laws Tested
Tested-laws = the_result_laws unit Error.the_row unit-laws the_error_laws

abbrev Landed : ℕ → MutBor (List ℕ) → Val → Val → Type 0
Landed n r v w = v ≡ vstruct (of_list (live n (of_list (w ∷ [])) ∷ slice_val r.ref_ptr (length r.now) ∷ []))

module _ {M : Type 1} {𝓤 : Ura M} {𝓛 : Logic 𝓤} {K : Type 0} {Γ : List (Item 𝓤)} {G : Goal 𝓤 𝓛.H} where
  pub tested_tells : K → (κ : Lft) (x : Result (Unit {0}) Utf16Error) (r : MutBor (List ℕ)) (v : Val)
      → ((u : Unit {0}) (w : Val) → x ≡ Ok u → Landed 0 r v w → Room u8 (length r.now) → IsTyped unit w
      → Seq K 𝓛 (‵ (unit.own_val u (w ∷ [])) ∷ ‵ ((MutSlice (named 0) κ u8).own_val r (mut_slice_vals r)) ∷ Γ) G)
      → ((e : Utf16Error) (w : Val) → x ≡ Err e → Landed 1 r v w → Room u8 (length r.now) → IsTyped Error.the_row w
      → Seq K 𝓛 (‵ (Error.the_row.own_val e (w ∷ [])) ∷ ‵ ((MutSlice (named 0) κ u8).own_val r (mut_slice_vals r)) ∷ Γ) G)
      → Seq K 𝓛 (‵ ((Pair κ).own_val (x, r) (v ∷ [])) ∷ Γ) G
  tested_tells t κ x r v ok err =
      pair_tells t κ Tested Tested-laws x r (v ∷ []) (λ w is room _. result_tells t unit Error.the_row unit-laws the_error_laws x (w ∷ [])
      (λ u w' fine at typed. ok u w' fine (pair_is is at) room typed) (λ e w' fault at typed. err e w' fault (pair_is is at) room typed))

module _ (Y : RattleType) (o : Ghosts Y.Denot) where
  abbrev pub Ans : Lft → RattleType
  Ans κ = RS.the_row (View Y o κ) Error.the_row

  pub Ans-laws : Laws Y → (κ : Lft) → Laws (Ans κ)
  Ans-laws laws κ = the_result_laws (View Y o κ) Error.the_row (the_view_laws (record { mir = named 0; lft = κ }) (param 0 Y) o (param_laws 0 Y laws)) the_error_laws

  module _ (d : Dict) where
    abbrev pub args : Args
    args = bounded (a_type ∷ []) (Y, tt) (dcons d dnil)

    abbrev pub stayed : Stays (F.signature Y o d).params (F.ended Y o d).kept
    stayed = (stay_dropped (SliceRefMutOf (0 ∷ []) tt (plain (λ _. u8)) (λ _. tt)) no, tt)

  module _ {M : Type 1} {𝓤 : Ura M} (𝓛 : Logic 𝓤) {K : Type 0} {Γ : List (Item 𝓤)} {G : Goal 𝓤 𝓛.H} where
    pub made_view : K → (κ : Lft) (s : WStrMut Y.Denot o) → let r = wstr_mut_lent s in
        Step K 𝓛 (‵ (Unchanged Y o r (Ok s)) ∷ ‵ ((Ans κ).own_val (Ok s) (live 0 (of_list (view_val Y o r ∷ [])) ∷ [])) ∷ Γ) G
        (‵ ((MutSlice (named 0) κ u8).own_val r (mut_slice_vals r)) ∷ Γ) G
    made_view t κ s =
        let r = wstr_mut_lent s in
        step (λ k. use1 𝓛 (‵ ((View Y o κ).own_val s (view_val Y o r ∷ []))) (made Y o 𝓛 κ s) $
        use1 𝓛 (‵ ((Ans κ).own_val (Ok s) (live 0 (of_list (view_val Y o r ∷ [])) ∷ []))) (Ok-of 𝓛 (View Y o κ) Error.the_row s (view_val Y o r)) $
        use0 𝓛 (‵ (Unchanged Y o r (Ok s))) (said Y o 𝓛 s) $ k)

    pub left_as_it_was : K → (κ : Lft) (r : MutBor (List ℕ)) (e : Utf16Error) (v : Val)
        → Step K 𝓛 (‵ (Unchanged Y o r (Err e)) ∷ ‵ ((Ans κ).own_val (Err e) (live 1 (of_list (v ∷ [])) ∷ [])) ∷ Γ) G
        (‵ (Error.the_row.own_val e (v ∷ [])) ∷ ‵ ((MutSlice (named 0) κ u8).own_val r (mut_slice_vals r)) ∷ Γ) G
    left_as_it_was t κ r e v =
        step (λ k. use1 𝓛 (‵ ((Ans κ).own_val (Err e) (live 1 (of_list (v ∷ [])) ∷ []))) (Err-of 𝓛 (View Y o κ) Error.the_row e v) $
        move t (1 ∷ []) $ fsplit3 t $ drop t $ move t (1 ∷ []) $ drop t $
        rewrite t 0 (λ (ys : List ℕ). ‵ (fobs r.ghost_name ((coded_list u8.coded).code ys))) (heres_id u8 r.now) refl $
        use1 𝓛 (‵ (fres r.ghost_name ((coded_list u8.coded).code r.now))) (𝓛.names.obs-res r.ghost_name ((coded_list u8.coded).code r.now)) $
        use1 𝓛 (‵ (Unchanged Y o r (Err e))) (rests Y o 𝓛 r e) $ k)
