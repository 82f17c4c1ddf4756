-- Ownership of a value determines its machine value, and its parts. Assumes `Logic`.
--     one_tells            of a lawful type: one machine value, of its type
--     result_tells         of a `Result`: the variant, and one machine value in it
--     pair_tells           of a slice and a value: the pair of their machine values
--     Ok-of, Err-of        a `Result` is made of one machine value
use Rattle.std.proofs.Common.{◌≡◌, ℕ, T, List, [], ◌∷◌, ◌++◌, Bool, true, false, length, refl, ap, subst, ◌∙◌, MutBor, Result, Ok, Err}
use mathlib.Core.Bool.{◌&&◌}
use seplogic.Ra.Ura.{Ura}
use mir.Syntax.{Ty, named}
use mir.Val.{Val, WT, has_ty, of_list, vstruct}
use base.Fml.{Lft}
use base.Logic.{ent, emp}
use contract.Monad.{fact, fact_i}
use types.Kit.{Goal, Item, Seq, Step, step, raw, ◌⊛◌, join, use0, ‵, ◌$◌, ◌∵◌, !, qed, move, drop, rewrite, fsplit, fjoin, fpick, fpack, feq_l, feq_i, done}
use types.Logic.{Logic, sem}
use types.Match.{live}
use denote.Builtin.{u8}
use denote.Enum.Declared.{shape}
use denote.Enum.Enum.{form_of, in_a_row}
use denote.Enum.Row.{tagged_with}
use denote.Laws.{Is, Typed, shows}
use denote.Param.{layout}
use denote.Param.Laws.{Laws}
use denote.RattleType.{RattleType, Valss, owns}
use denote.Slice.{MutSlice, Room, slice_val, mut_slice_vals}
use denote.Steps.{nothing, only, peeks}
use denote.Struct.Tuple.{Tuple}
use Rattle.std.specs.contracts.result.Result as RS

pub and_true : (b : Bool) → T b → T (b && true)
and_true true t = t
and_true false t = absurd t

-- the pair that came back, if its first part is a variant
pub pair_is : {v w u s : Val} {n : ℕ} → v ∷ [] ≡ vstruct (of_list (w ∷ s ∷ [])) ∷ [] → w ∷ [] ≡ live n (of_list (u ∷ [])) ∷ []
    → v ≡ vstruct (of_list (live n (of_list (u ∷ [])) ∷ s ∷ []))
pair_is {s = s} e f = ap only e ∙ ap (λ (us : List Val). vstruct (of_list (only us ∷ s ∷ []))) f

abbrev pub IsTyped : RattleType → Val → Type 0
IsTyped R v = T (has_ty (layout R) v) × WT v

alone : (τ : Ty) (vs : List Val) → Typed (τ ∷ []) vs → (v : Val) × ((vs ≡ v ∷ []) × (T (has_ty τ v) × WT v))
alone τ [] t = absurd t
alone τ (v ∷ []) t = (v, (refl, t.0))
alone τ (v ∷ w ∷ vs) t = absurd t.1

module _ {M : Type 1} {𝓤 : Ura M} {𝓛 : Logic 𝓤} {K : Type 0} {Γ : List (Item 𝓤)} {G : Goal 𝓤 𝓛.H} where
  pub one_tells : K → (R : RattleType) (L : Laws R) (x : R.Denot) (vs : List Val)
      → ((v : Val) → vs ≡ v ∷ [] → IsTyped R v → Seq K 𝓛 (‵ (R.own_val x (v ∷ [])) ∷ Γ) G) → Seq K 𝓛 (‵ (R.own_val x vs) ∷ Γ) G
  one_tells t R L x vs k =
      peeks t R (Is R) (shows 𝓛 R) x vs (λ is.
      let one = alone (layout R) vs (subst (λ τs. Typed τs vs) L.one ((L.lawful 𝓛).typed x vs is)) in
      rewrite t 0 (λ (us : List Val). ‵ (R.own_val x us)) one.1.0 refl $ k one.0 one.1.0 one.1.1)

  pub result_tells : K → (R E : RattleType) (L : Laws R) (N : Laws E) (x : Result R.Denot E.Denot) (vs : List Val)
      → ((y : R.Denot) (v : Val) → x ≡ Ok y → vs ≡ live 0 (of_list (v ∷ [])) ∷ [] → IsTyped R v → Seq K 𝓛 (‵ (R.own_val y (v ∷ [])) ∷ Γ) G)
      → ((e : E.Denot) (v : Val) → x ≡ Err e → vs ≡ live 1 (of_list (v ∷ [])) ∷ [] → IsTyped E v → Seq K 𝓛 (‵ (E.own_val e (v ∷ [])) ∷ Γ) G)
      → Seq K 𝓛 (‵ ((RS.the_row R E).own_val x vs) ∷ Γ) G
  result_tells t R E L N (Ok y) vs ok err =
      fpick t (λ us. fsplit t $ feq_l t (λ e. fpick t (λ vss. fsplit t $ feq_l t (λ e'. fsplit t $ move t (1 ∷ []) $ drop t $ one_tells t R L y vss.0 (λ v one typed.
      ok y v refl (e ∙ ap (λ (ws : List Val). live 0 (of_list ws) ∷ []) (e' ∙ ap (λ (ws : List Val). ws ++ []) one)) typed)))))
  result_tells t R E L N (Err y) vs ok err =
      fpick t (λ us. fsplit t $ feq_l t (λ e. fpick t (λ vss. fsplit t $ feq_l t (λ e'. fsplit t $ move t (1 ∷ []) $ drop t $ one_tells t E N y vss.0 (λ v one typed.
      err y v refl (e ∙ ap (λ (ws : List Val). live 1 (of_list ws) ∷ []) (e' ∙ ap (λ (ws : List Val). ws ++ []) one)) typed)))))

module _ {M : Type 1} {𝓤 : Ura M} {𝓛 : Logic 𝓤} {K : Type 0} {Γ : List (Item 𝓤)} {G : Goal 𝓤 𝓛.H} where
  pub pair_tells : K → (κ : Lft) (R : RattleType) (L : Laws R) (x : R.Denot) (s : MutBor (List ℕ)) (vs : List Val)
      → ((v : Val) → vs ≡ vstruct (of_list (v ∷ slice_val s.ref_ptr (length s.now) ∷ [])) ∷ [] → Room u8 (length s.now) → IsTyped R v
      → Seq K 𝓛 (‵ (R.own_val x (v ∷ [])) ∷ ‵ ((MutSlice (named 0) κ u8).own_val s (mut_slice_vals s)) ∷ Γ) G)
      → Seq K 𝓛 (‵ ((Tuple (R ∷ MutSlice (named 0) κ u8 ∷ [])).own_val (x, s) vs) ∷ Γ) G
  pair_tells t κ R L x s vs k =
      let Slice : RattleType = MutSlice (named 0) κ u8 in
      fpick t (λ vss. fsplit t $ feq_l t (λ e. fsplit t $ move t (1 ∷ []) $ fsplit t $ peeks t Slice (Is Slice) (shows 𝓛 Slice) s vss.1.0 (λ is.
      rewrite t 0 (λ (us : List Val). ‵ (Slice.own_val s us)) is.0.0 refl $ move t (1 ∷ []) $ drop t $ move t (1 ∷ []) $ one_tells t R L x vss.0 (λ v one typed.
      k v (e ∙ ap (λ (us : List Val). vstruct (of_list (us ++ (vss.1.0 ++ []))) ∷ []) one ∙ ap (λ (us : List Val). vstruct (of_list (v ∷ (us ++ []))) ∷ []) is.0.0) is.0.1 typed))))

module _ {M : Type 1} {𝓤 : Ura M} (𝓛 : Logic 𝓤) (R E : RattleType) where
  pub Ok-of : (x : R.Denot) (v : Val) → ent 𝓤 (sem 𝓛 (R.own_val x (v ∷ []))) (sem 𝓛 ((RS.the_row R E).own_val (Ok x) (live 0 (of_list (v ∷ [])) ∷ [])))
  Ok-of x v =
      qed 𝓛 (‵ (R.own_val x (v ∷ [])) ∷ []) ∵ nothing ! $ move ! (1 ∷ 0 ∷ []) $ fjoin ! $ feq_i ! (List Val) (v ∷ []) (v ∷ []) refl $ fjoin ! $
      fpack ! (Valss (R ∷ [])) (in_a_row (R ∷ []) (owns (R ∷ []) (x, tt)) (v ∷ [])) (v ∷ [], tt) $
      feq_i ! (List Val) (live 0 (of_list (v ∷ [])) ∷ []) (live 0 (of_list (v ∷ [])) ∷ []) refl $ fjoin ! $
      fpack ! (List Val) (tagged_with (form_of (shape (RS.the_type R E))) (form_of (shape (RS.the_type R E))).payload ((RS.the_type R E).to (Ok x)) (live 0 (of_list (v ∷ [])) ∷ [])) (v ∷ []) $ done !

  pub Err-of : (x : E.Denot) (v : Val) → ent 𝓤 (sem 𝓛 (E.own_val x (v ∷ []))) (sem 𝓛 ((RS.the_row R E).own_val (Err x) (live 1 (of_list (v ∷ [])) ∷ [])))
  Err-of x v =
      qed 𝓛 (‵ (E.own_val x (v ∷ [])) ∷ []) ∵ nothing ! $ move ! (1 ∷ 0 ∷ []) $ fjoin ! $ feq_i ! (List Val) (v ∷ []) (v ∷ []) refl $ fjoin ! $
      fpack ! (Valss (E ∷ [])) (in_a_row (E ∷ []) (owns (E ∷ []) (x, tt)) (v ∷ [])) (v ∷ [], tt) $
      feq_i ! (List Val) (live 1 (of_list (v ∷ [])) ∷ []) (live 1 (of_list (v ∷ [])) ∷ []) refl $ fjoin ! $
      fpack ! (List Val) (tagged_with (form_of (shape (RS.the_type R E))) (form_of (shape (RS.the_type R E))).payload ((RS.the_type R E).to (Err x)) (live 1 (of_list (v ∷ [])) ∷ [])) (v ∷ []) $ done !

-- a fact is inserted before the first entry
module _ {M : Type 1} {𝓤 : Ura M} {𝓛 : Logic 𝓤} {K : Type 0} {Γ : List (Item 𝓤)} {i : Item 𝓤} {G : Goal 𝓤 𝓛.H} where
  pub known : K → {φ : Type 0} → φ → Step K 𝓛 ((raw (fact 𝓤 φ) ⊛ i) ∷ Γ) G (i ∷ Γ) G
  known t {φ} x = step (λ s. use0 𝓛 (raw (fact 𝓤 φ)) (fact_i 𝓤 φ (emp 𝓤) x) $ join t $ s)
