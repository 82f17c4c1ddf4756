-- The clause on bytes that a checked view may not take, and the view of a slice. Assumes `Logic`.
--     Unchanged            the clause: if there is no view, the bytes end unchanged
--     said, rests          it holds of a view of these bytes, and of an error once they rest
--     made                 a view is owned by its slice
use Rattle.std.proofs.Common.{◌≡◌, ℕ, List, [], ◌∷◌, length, refl, MutBor, Result, Ok, Err}
use seplogic.Ra.Ura.{Ura}
use mir.Syntax.{named}
use mir.Val.{Val, vstruct, vcons, vnil}
use base.Fml.{Fml, Lft, fres}
use base.Logic.{ent, emp, ex_i, via}
use mathlib.Core.Option.{some, none}
use types.Kit.{‵, ◌$◌, ◌∵◌, !, qed, move, fjoin, fpack, feq_i, done}
use types.Logic.{Logic, sem}
use borrow.Follows.Kept.{follows_itself}
use denote.Builtin.{u8}
use denote.Follow.{follows, follows_by, follows_if, such_by}
use denote.Param.{param}
use denote.RattleType.{RattleType, Valss}
use denote.Slice.{MutSlice, slice_val, mut_slice_vals}
use denote.Laws.{Is}
use denote.Steps.{nothing, owned}
use denote.Struct.Declared.{shape}
use denote.Struct.Struct.{Struct, Struct-Makes, within}
use Rattle.std.specs.contracts.marker.PhantomData as PD
use Rattle.std.specs.Borrow.{Array}
use Rattle.std.specs.Prelude.{OnOk, OnErr}
use Rattle.utf16_units.specs.declared.error.Utf16Error.{Utf16Error}
use Rattle.utf16_units.specs.declared.byte_order.Utf16Order.{Ghosts}
use Rattle.utf16_str.specs.WStrMut.{UnchangedOnErr, wstr_mut_lent}
use Rattle.utf16_str.specs.declared.wstr_mut.WStrMut.{WStrMut}
use Rattle.utf16_str.specs.contracts.wstr_mut.WStrMut as view

abbrev Bytes : RattleType
Bytes = Array u8 0

module _ (Y : RattleType) (o : Ghosts Y.Denot) where
  abbrev pub Answer : Type 0
  Answer = Result (WStrMut Y.Denot o) Utf16Error

  abbrev pub Unchanged : MutBor (List ℕ) → Answer → Fml
  Unchanged r x = UnchangedOnErr r x

  abbrev pub View : Lft → RattleType
  View κ = view.the_row (record { mir = named 0; lft = κ }) (param 0 Y) o

  abbrev pub view_val : MutBor (List ℕ) → Val
  view_val r = vstruct (vcons (slice_val r.ref_ptr (length r.now)) (vcons (vstruct vnil) vnil))

  module _ {M : Type 1} {𝓤 : Ura M} (𝓛 : Logic 𝓤) where
    pub said : (s : WStrMut Y.Denot o) → ent 𝓤 (emp 𝓤) (sem 𝓛 (Unchanged (wstr_mut_lent s) (Ok s)))
    unfolding such_by follows_by
    said s = let r = wstr_mut_lent s in via 𝓤 (sem 𝓛 (follows Bytes Bytes r.ghost_name r.ghost_name (λ w. w))) (follows_itself 𝓛 Bytes r.ghost_name)
        (ex_i 𝓤 (λ (y : (p : (List ℕ → List ℕ) × List ℕ) × ((z : List ℕ) → OnOk {E = Utf16Error} (Ok s) (p.0 z ≡ z)) × OnErr {E = Utf16Error} (Ok s) (p.1 ≡ r.now)). sem 𝓛 (follows_if Bytes Bytes r.ghost_name (some r.ghost_name) y.0.0 y.0.1)) ((λ w. w, r.now), (λ z. refl), tt))

    pub rests : (r : MutBor (List ℕ)) (e : Utf16Error) → ent 𝓤 (sem 𝓛 (fres r.ghost_name (Bytes.coded.code r.now))) (sem 𝓛 (Unchanged r (Err e)))
    unfolding such_by follows_by
    rests r e = ex_i 𝓤 (λ (y : (p : (List ℕ → List ℕ) × List ℕ) × ((z : List ℕ) → OnOk {T = WStrMut Y.Denot o} (Err e) (p.0 z ≡ z)) × OnErr {T = WStrMut Y.Denot o} (Err e) (p.1 ≡ r.now)). sem 𝓛 (follows_if Bytes Bytes r.ghost_name none y.0.0 y.0.1)) ((λ w. w, r.now), (λ z. tt), refl)

    pub made : (κ : Lft) (s : WStrMut Y.Denot o) → let r = wstr_mut_lent s in
        ent 𝓤 (sem 𝓛 ((MutSlice (named 0) κ u8).own_val r (mut_slice_vals r))) (sem 𝓛 ((View κ).own_val s (view_val r ∷ [])))
    made κ s =
        let r = wstr_mut_lent s in let Slice : RattleType = MutSlice (named 0) κ u8 in let T = view.the_type (record { mir = named 0; lft = κ }) (param 0 Y) o in
        let Order : RattleType = Struct (shape (PD.the_type (param 0 Y))) in
        qed 𝓛 (‵ (Slice.own_val r (mut_slice_vals r)) ∷ []) ∵ nothing ! $ owned ! Order (Is Order) (Struct-Makes 𝓛 (shape (PD.the_type (param 0 Y))) tt) tt (vstruct vnil ∷ []) (tt, (refl, tt)) $ fjoin ! $
        move ! (1 ∷ 0 ∷ []) $ fjoin ! $ feq_i ! (List Val) (view_val r ∷ []) (view_val r ∷ []) refl $ fjoin ! $
        fpack ! (Valss (Slice ∷ Order ∷ [])) (within (shape T) (T.to s) (view_val r ∷ [])) (mut_slice_vals r, ((vstruct vnil ∷ []), tt)) $ done !
