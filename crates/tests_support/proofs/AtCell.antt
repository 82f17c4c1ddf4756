-- A call of a function that takes only a `&Cell<T>`, or one and a size, and whose contract says
-- nothing about its result. Assumes `Logic`.
--     AtCell T R           the contract, if it takes only the `&` and returns an R
--     asks_cell            a proof's step: from the `&` and the token of its lifetime, by a step
--                          for the call, as `calls_at`, to the result and the token
--     AtSized, asks_sized  the same if it also takes a size
use Rattle.std.proofs.Common.{ℕ, ◌^◌, ◌<◌, List, [], ◌∷◌, refl, w64}
use seplogic.Ra.Ura.{Ura}
use mir.Val.{Val, vint, vptr}
use base.Logic.{ent, id⊢, sep, ex, emp}
use base.Fml.{Lft, Share, ftrue, flft}
use types.Logic.{Logic, sem}
use types.Kit.{Item, Goal, Seq, Soaks, ‵, raw, ◌⊛◌, some, later, pick, ◌$◌, ◌∵◌, !, qed, move, keep, use1, use2, split, join, fjoin, await, done, feq_i, flt_i, show, updating, now as at_once}
use denote.Builtin.{RefOf, usize}
use denote.Exit.{yes}
use denote.Memory.{hidden_shr}
use denote.RattleType.{RattleType}
use denote.Signature.{Signature, plain}
use denote.Steps.{nothing}
use denote.Triple.Spec.{exits, triple_of}
use denote.Triple.Statement.{Contract}
use Rattle.std.specs.contracts.cell.Cell as CE

module _ (T R : RattleType) where
  abbrev S : Signature
  S = record { lifetimes = 1; outlives = []; params = RefOf (0 ∷ []) tt (plain (λ κs. CE.the_row T)) (λ κs. tt) ∷ []; result = plain (λ κs. R) }

  module _ {M : Type 1} {𝓤 : Ura M} (𝓛 : Logic 𝓤) where
    open 𝓛 use {H, A}

    abbrev pub AtCell : Contract 𝓤
    AtCell = triple_of 𝓛 S (λ κs a. record { ghost = Unit {0}; requires = λ g. emp 𝓤; ensures = λ g r. exits 𝓛 S (yes, tt) κs a (λ e. emp 𝓤) })

    module _ (κ : Lft) (q : Share) (c : ℕ × ℕ) (n : (CE.the_row T).Denot) where
      abbrev pub at_cell : AtCell.Ghost
      at_cell = (((κ, tt), (q, tt), tt, (record { ref_ptr = c; now = n }, tt), (vptr c.0 c.1 ∷ [], tt)), tt)

      goes : ent 𝓤 (sep 𝓤 (sem 𝓛 (hidden_shr (CE.the_row T) κ n c.0 c.1)) (A.lft κ q)) (AtCell.pre at_cell)
      goes =
          qed 𝓛 (‵ (hidden_shr (CE.the_row T) κ n c.0 c.1) ∷ ‵ (flft κ q) ∷ []) ∵ feq_i ! (List Val) (vptr c.0 c.1 ∷ []) (vptr c.0 c.1 ∷ []) refl $ fjoin ! $
          nothing ! $ move ! (1 ∷ []) $ fjoin ! $ nothing ! $ move ! (2 ∷ []) $ join ! $ join ! $ nothing ! $ move ! (1 ∷ []) $ done !

      gives : (v : Val) → ent 𝓤 (AtCell.post at_cell v) (H.⇛ (ex 𝓤 (λ (y : R.Denot). sep 𝓤 (sem 𝓛 (R.own_val y (v ∷ []))) (A.lft κ q))))
      gives v =
          qed 𝓛 (raw (AtCell.post at_cell v) ∷ []) ∵ updating ! $
          use1 𝓛 (later (some (λ (y : R.Denot). ((‵ (flft κ q) ⊛ ‵ ftrue) ⊛ ‵ (R.own_val y (v ∷ []))) ⊛ raw (exits 𝓛 S (yes, tt) (κ, tt) at_cell.0.3 (λ e. emp 𝓤))))) (id⊢ 𝓤 _) $ await ! tt $ pick ! (λ y.
          split ! $ split ! $ split ! $ keep ! (2 ∷ 0 ∷ []) $ at_once ! $ show ! (λ (t : R.Denot). sep 𝓤 (sem 𝓛 (R.own_val t (v ∷ []))) (A.lft κ q)) y $ done !)

module _ (T R : RattleType) {M : Type 1} {𝓤 : Ura M} {𝓛 : Logic 𝓤} {K : Type 0} {Γ : List (Item 𝓤)} {G : Goal 𝓤 𝓛.H} {after : Val → Goal 𝓤 𝓛.H} where
  pub asks_cell : K → (κ : Lft) (q : Share) (c : ℕ × ℕ) (n : (CE.the_row T).Denot)
      → (((v : Val) → Seq K 𝓛 (raw ((AtCell T R 𝓛).post (at_cell T R 𝓛 κ q c n) v) ∷ Γ) (after v)) → Seq K 𝓛 (raw ((AtCell T R 𝓛).pre (at_cell T R 𝓛 κ q c n)) ∷ Γ) G) → ((v : Val) → Soaks (after v))
      → ((v : Val) (y : R.Denot) → Seq K 𝓛 (‵ (R.own_val y (v ∷ [])) ∷ ‵ (flft κ q) ∷ Γ) (after v)) → Seq K 𝓛 (‵ (hidden_shr (CE.the_row T) κ n c.0 c.1) ∷ ‵ (flft κ q) ∷ Γ) G
  asks_cell t κ q c n ask z next =
      use2 𝓛 (raw ((AtCell T R 𝓛).pre (at_cell T R 𝓛 κ q c n))) (goes T R 𝓛 κ q c n) $ ask (λ v.
      use1 𝓛 (later (some (λ (y : R.Denot). ‵ (R.own_val y (v ∷ [])) ⊛ ‵ (flft κ q)))) (gives T R 𝓛 κ q c n v) $ await t (z v) $ pick t (λ y. split t $ next v y))

module _ (T R : RattleType) where
  abbrev Sized : Signature
  Sized = record { lifetimes = 1; outlives = []; params = RefOf (0 ∷ []) tt (plain (λ κs. CE.the_row T)) (λ κs. tt) ∷ plain (λ κs. usize) ∷ []; result = plain (λ κs. R) }

  module _ {M : Type 1} {𝓤 : Ura M} (𝓛 : Logic 𝓤) where
    open 𝓛 use {H, A}

    abbrev pub AtSized : Contract 𝓤
    AtSized = triple_of 𝓛 Sized (λ κs a. record { ghost = Unit {0}; requires = λ g. emp 𝓤; ensures = λ g r. exits 𝓛 Sized (yes, (yes, tt)) κs a (λ e. emp 𝓤) })

    module _ (κ : Lft) (q : Share) (c : ℕ × ℕ) (n : (CE.the_row T).Denot) (s : ℕ) where
      abbrev pub at_sized : AtSized.Ghost
      at_sized = (((κ, tt), (q, tt), tt, (record { ref_ptr = c; now = n }, (s, tt)), (vptr c.0 c.1 ∷ [], (vint w64 s ∷ [], tt))), tt)

      goes_sized : s < 2 ^ 64 → ent 𝓤 (sep 𝓤 (sem 𝓛 (hidden_shr (CE.the_row T) κ n c.0 c.1)) (A.lft κ q)) (AtSized.pre at_sized)
      goes_sized fits =
          qed 𝓛 (‵ (hidden_shr (CE.the_row T) κ n c.0 c.1) ∷ ‵ (flft κ q) ∷ []) ∵ nothing ! $ flt_i ! s (2 ^ 64) fits $ feq_i ! (List Val) (vint w64 s ∷ []) (vint w64 s ∷ []) refl $ fjoin ! $ fjoin ! $
          move ! (1 ∷ []) $ feq_i ! (List Val) (vptr c.0 c.1 ∷ []) (vptr c.0 c.1 ∷ []) refl $ fjoin ! $ fjoin ! $ nothing ! $ move ! (2 ∷ []) $ join ! $ join ! $ nothing ! $ move ! (1 ∷ []) $ done !

      gives_sized : (v : Val) → ent 𝓤 (AtSized.post at_sized v) (H.⇛ (ex 𝓤 (λ (y : R.Denot). sep 𝓤 (sem 𝓛 (R.own_val y (v ∷ []))) (A.lft κ q))))
      gives_sized v =
          qed 𝓛 (raw (AtSized.post at_sized v) ∷ []) ∵ updating ! $
          use1 𝓛 (later (some (λ (y : R.Denot). ((‵ (flft κ q) ⊛ ‵ ftrue) ⊛ ‵ (R.own_val y (v ∷ []))) ⊛ raw (exits 𝓛 Sized (yes, (yes, tt)) (κ, tt) at_sized.0.3 (λ e. emp 𝓤))))) (id⊢ 𝓤 _) $ await ! tt $ pick ! (λ y.
          split ! $ split ! $ split ! $ keep ! (2 ∷ 0 ∷ []) $ at_once ! $ show ! (λ (t : R.Denot). sep 𝓤 (sem 𝓛 (R.own_val t (v ∷ []))) (A.lft κ q)) y $ done !)

module _ (T R : RattleType) {M : Type 1} {𝓤 : Ura M} {𝓛 : Logic 𝓤} {K : Type 0} {Γ : List (Item 𝓤)} {G : Goal 𝓤 𝓛.H} {after : Val → Goal 𝓤 𝓛.H} where
  pub asks_sized : K → (κ : Lft) (q : Share) (c : ℕ × ℕ) (n : (CE.the_row T).Denot) (s : ℕ) → s < 2 ^ 64
      → (((v : Val) → Seq K 𝓛 (raw ((AtSized T R 𝓛).post (at_sized T R 𝓛 κ q c n s) v) ∷ Γ) (after v)) → Seq K 𝓛 (raw ((AtSized T R 𝓛).pre (at_sized T R 𝓛 κ q c n s)) ∷ Γ) G) → ((v : Val) → Soaks (after v))
      → ((v : Val) (y : R.Denot) → Seq K 𝓛 (‵ (R.own_val y (v ∷ [])) ∷ ‵ (flft κ q) ∷ Γ) (after v)) → Seq K 𝓛 (‵ (hidden_shr (CE.the_row T) κ n c.0 c.1) ∷ ‵ (flft κ q) ∷ Γ) G
  asks_sized t κ q c n s fits ask z next =
      use2 𝓛 (raw ((AtSized T R 𝓛).pre (at_sized T R 𝓛 κ q c n s))) (goes_sized T R 𝓛 κ q c n s fits) $ ask (λ v.
      use1 𝓛 (later (some (λ (y : R.Denot). ‵ (R.own_val y (v ∷ [])) ⊛ ‵ (flft κ q)))) (gives_sized T R 𝓛 κ q c n s v) $ await t (z v) $ pick t (λ y. split t $ next v y))
