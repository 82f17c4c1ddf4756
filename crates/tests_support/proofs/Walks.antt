-- What the walks of `allocate` and `deallocate` share. Assumes `Logic`.
--     Heap, args, self     the allocator's type, the type arguments of both functions, and their
--                          first parameter, a `&` to it
--     kept                 the parameters that `allocate` keeps
--     inner_at, plan_at, live_blocks_at    where its fields lie. The plan takes 40 bytes
--     Self, Plans, Blocks  what that `&` owns, and a `&` to the plan and to the count
--     starts               a proof's step, the first of both: what the bound says of a lifetime,
--                          and the `&` as a `&` to each field
use Rattle.tests_support.proofs.Steps.{Stays, stay_dropped, usize, yes, ℕ, ◌+◌, List, [], ◌∷◌, Bor, Ura, Args, a_type, dnil, dcons, ent, Lft, Share, Fml, ftrue, fsep, flft, size, align, up, Logic, sem, Item, Goal, Seq, ‵, raw, ◌⊛◌, mean, ◌$◌, ◌∵◌, !, qed, move, keep, drop, use1, split, split3, fsplit, done, ◌⊑◌, fact, u64, RefOf, hidden_shr, unhide, bounded, param, RattleType, shr_vals, Slot, plain, type_at, heard, Al, α, seen}
use Rattle.std.specs.contracts.cell.Cell as CE
use Rattle.tests_support.specs.contracts.refusing.Plan as PL
use Rattle.tests_support.specs.contracts.refusing.Refusing as wrapper
use Rattle.tests_support.specs.contracts.refusing.RefusingAllocator.allocate as F

module _ (Z : Al) where
  abbrev pub args : Args
  args = bounded (a_type ∷ []) (Z.row, tt) (dcons Z.d (dcons Z.drops dnil))

  abbrev pub Heap : RattleType
  Heap = wrapper.the_row (param 0 Z.row)

  abbrev pub self : Slot 2
  self = RefOf (0 ∷ []) tt (plain (λ _. Heap)) (λ _. tt)

  -- of `allocate`
  abbrev pub kept : Stays (F.signature Z.row).params (F.ended Z.row Z.g Z.d Z.drops).kept
  kept = (stay_dropped self yes, (stay_dropped (plain (λ _. usize)) yes, (stay_dropped (plain (λ _. usize)) yes, tt)))

  abbrev pub inner_at : ℕ × ℕ → ℕ × ℕ
  inner_at p = (p.0, p.1 + up (align (α Z)) 0)

  abbrev pub plan_at : ℕ × ℕ → ℕ × ℕ
  plan_at p = (p.0, p.1 + up 8 (up (align (α Z)) 0 + size (α Z)))

  abbrev pub live_blocks_at : ℕ × ℕ → ℕ × ℕ
  live_blocks_at p = (p.0, p.1 + up 8 (up 8 (up (align (α Z)) 0 + size (α Z)) + 40))

  module _ (κ ρ : Lft) (r : Bor Heap.Denot) where
    abbrev pub Self : Fml
    Self = (type_at self (κ, (ρ, tt))).own_val r (shr_vals r)

    abbrev pub Plans : Fml
    Plans = hidden_shr (CE.the_row PL.the_row) κ r.now.plan (plan_at r.ref_ptr).0 (plan_at r.ref_ptr).1

    abbrev pub Blocks : Fml
    Blocks = hidden_shr (CE.the_row u64) κ r.now.live_blocks (live_blocks_at r.ref_ptr).0 (live_blocks_at r.ref_ptr).1

    fields : {M : Type 1} {𝓤 : Ura M} (𝓛 : Logic 𝓤) → ent 𝓤 (sem 𝓛 Self) (mean 𝓛 (‵ (seen Z κ (inner_at r.ref_ptr) r.now.inner) ⊛ ‵ Plans ⊛ ‵ Blocks))
    fields 𝓛 =
        qed 𝓛 (‵ Self ∷ []) ∵ fsplit ! $ move ! (1 ∷ []) $ unhide ! $ fsplit ! $ fsplit ! $ move ! (1 ∷ []) $ fsplit ! $ move ! (1 ∷ []) $ fsplit ! $ keep ! (3 ∷ 2 ∷ 0 ∷ []) $ done !

module _ (Z : Al) {M : Type 1} {𝓤 : Ura M} {𝓛 : Logic 𝓤} {K : Type 0} {Γ : List (Item 𝓤)} {G : Goal 𝓤 𝓛.H} where
  -- [the `&`s to the fields; the token of κ; the token of ρ; what else is asked]
  pub starts : K → {κ ρ : Lft} {q s : Share} {r : Bor (Heap Z).Denot} {others : Fml} {I : Item 𝓤}
      → (ρ ⊑ Z.row.lives → Seq K 𝓛 (‵ (seen Z κ (inner_at Z r.ref_ptr) r.now.inner) ∷ ‵ (Plans Z κ ρ r) ∷ ‵ (Blocks Z κ ρ r) ∷ ‵ (flft κ q) ∷ (‵ (flft ρ s) ⊛ ‵ ftrue) ∷ I ∷ Γ) G)
      → Seq K 𝓛 (((‵ (flft κ q) ⊛ ‵ (flft ρ s) ⊛ ‵ ftrue) ⊛ ‵ (fsep (Self Z κ ρ r) others)) ∷ (raw (fact 𝓤 (ρ ⊑ Z.row.lives)) ⊛ I) ∷ Γ) G
  starts t {κ} {ρ} {q} {s} {r} {others} {I} k =
      move t (1 ∷ []) $ split t $ heard t (ρ ⊑ Z.row.lives) (λ le. move t (1 ∷ []) $ split t $ split t $ move t (2 ∷ []) $ fsplit t $ move t (1 ∷ []) $ drop t $
      use1 𝓛 (‵ (seen Z κ (inner_at Z r.ref_ptr) r.now.inner) ⊛ ‵ (Plans Z κ ρ r) ⊛ ‵ (Blocks Z κ ρ r)) (fields Z κ ρ r 𝓛) $ split3 t $ k le)
