-- It returns the block to the inner allocator, and counts. Assumes `Logic`.
use Rattle.tests_support.proofs.Steps.{◌≡◌, List, [], ◌∷◌, refl, ap, w64, Al, token, Gives, at_gives, Gives-goes, Gives-Gives, proved, ftrue, fsep, flft, never, fst∗, ◌⊑◌, ⊑_trans, fact, tables, u64, unit, usize, RawPtr, yes, uint_vals, uint_Tells, owns, Ptr, block_ptr, null_ptr, ptr_val, rawptr_vals, rawptr_Tells, room_for, in_a_block, shr_vals, plain, types_at, heard, nothing, only, calls_at, framed, Stays, stay_dropped, walk_of, ends_at, Goes-dropped, inst_fn, Val, vint, vptr, vunit, size, align, capped, WpFn, alloc_all, pass_all, free_all, look_at, get, through, sets, lands_as, ‵, raw, ◌⊛◌, later, given, prop, ◌$◌, ◌∵◌, !, qed, move, keep, use1, split, join, learn, fsplit, fjoin, feq_i, feq_l, regoal, suffices, group, await, done, sem, stop, fld, addr, of_opd, unit_lit, no_more, and_then, returns, enter}
use Rattle.tests_support.proofs.AtCell.{asks_cell}
use Rattle.tests_support.proofs.Walks.{args, self, inner_at, live_blocks_at, starts}
use Rattle.tests_support.proofs.refusing.count_given_back.Met as counts
use Rattle.tests_support.specs.contracts.refusing.RefusingAllocator.deallocate as F
use Rattle.tests_support.specs.contracts.refusing.RefusingAllocator.deallocate.Key as key
use Rattle.tests_support.proofs.refusing.RefusingAllocator.deallocate.Statement as stated
use Rattle.tests_support.proofs.refusing.RefusingAllocator.deallocate.Code as code

abbrev stayed : (Z : Al) → Stays (F.signature Z.row).params (F.ended Z.row Z.g Z.d Z.drops).kept
stayed Z = (stay_dropped (self Z) yes, (stay_dropped (plain (λ _. RawPtr)) yes, (stay_dropped (plain (λ _. usize)) yes, (stay_dropped (plain (λ _. usize)) yes, tt))))

pub deallocate_spec : {M : Type 1} → stated.statement M
deallocate_spec 𝓤 𝓛 𝓜 𝓡 wired Y L g d d' met _ =
    let Z : Al = record { row = Y; laws = L; g = g; d = d; drops = d' } in
    let S = F.ended Y g d d' in let c = F.clauses Y g d d' 𝓛 𝓜.mem 𝓡.returns in let W = walk_of 𝓛 S (stayed Z) c in
    let 𝓣 = tables 𝓤 𝓛.H 𝓜 𝓡 𝓡.env in let here = inst_fn (args Z) code.function in
    let number = Goes-dropped 𝓛 2 (plain (λ _. usize)) yes (λ κs x f. refl) in
    proved 𝓛 S (stayed Z) c 𝓜 𝓡 (Goes-dropped 𝓛 2 (self Z) yes (λ κs x f. refl), (Goes-dropped 𝓛 2 (plain (λ _. RawPtr)) yes (λ κs x f. refl), (number, (number, tt))))
    (key.name (args Z)) here (code.unfolded 𝓤 𝓛.H 𝓜 𝓡 wired (Y, tt) d d')
    (λ κs. (shr_vals, (rawptr_vals, (uint_vals w64, (uint_vals w64, tt))))) (λ κs. ((λ r vs s. s.0), (rawptr_Tells, (uint_Tells w64, (uint_Tells w64, tt))))) (λ κs qs bounds a τ are.
    let κ = κs.0 in let q = qs.0 in let r = a.0 in let n = a.1.1.0 in let al = a.1.1.1.0 in let h = r.now.inner in
    let y : Ptr → W.Ghost = λ x. ((κs, qs, bounds, (r, (x, a.1.1)), (shr_vals r, (rawptr_vals x, (vint w64 n ∷ [], (vint w64 al ∷ [], tt))))), τ) in
    let vs : Ptr → List Val = λ x. vptr r.ref_ptr.0 r.ref_ptr.1 ∷ ptr_val x ∷ vint w64 n ∷ vint w64 al ∷ [] in
    let Lent = λ (x : Ptr). fsep (room_for τ x) (token Z h τ x) in
    let Said : Type 0 = (capped (size τ) ≡ n) × (capped (align τ) ≡ al) in
    qed 𝓛 (((‵ (flft κ q) ⊛ ‵ (flft κs.1.0 qs.1.0) ⊛ ‵ ftrue) ⊛ ‵ (owns (types_at S.signature.params κs) a (y a.1.0).0.4)) ∷ (raw (fact 𝓤 (κs.1.0 ⊑ Y.lives)) ⊛ raw (fact 𝓤 Said) ⊛ ‵ (Lent a.1.0)) ∷ []) ∵
    starts Z ! (λ le. move ! (5 ∷ []) $ split ! $ heard ! Said (λ said. keep ! (0 ∷ 1 ∷ 4 ∷ 3 ∷ 5 ∷ []) $
    in_a_block ! a.1.0 Lent (fst∗ 𝓤 (never 𝓤) (sem 𝓛 (token Z h τ null_ptr))) (λ b o e.
    regoal ! (λ (x : Ptr). prop (WpFn 𝓤 𝓛.H 𝓣.C 𝓣.Λ here (vs x) (W.post (y x)))) e refl $ fsplit ! $
    -- [the block; what lets it be freed; the `&` to the inner allocator; the token of κ; the `&` to
    -- the count; the other tokens]
    enter ! _ _ _ _ _ $ alloc_all ! (λ l. pass_all ! refl ((tt, tt), ((tt, tt), ((tt, record { fits = are.1.1.0.1 }), ((tt, record { fits = are.1.1.1.0.1 }), tt)))) $
    sets ! (addr ! (through ! refl (fld ! refl (stop !)))) refl (tt, tt) $
    let G = Gives Z 𝓛 𝓜.mem 𝓡.returns in let p = inner_at Z r.ref_ptr in let z : G.Ghost = at_gives Z 𝓛 𝓜.mem 𝓡.returns κ q p h b o n al τ in
    group ! 4 $ use1 𝓛 (raw (G.pre z)) (Gives-goes Z 𝓛 𝓜.mem 𝓡.returns κ q p h (⊑_trans κ κs.1.0 Y.lives bounds.0 le) b o n al τ said.0 said.1 are.1.1.0.1 are.1.1.1.0.1) $
    calls_at ! (framed 𝓤 𝓛.H 𝓜 𝓣) G (met.deallocate d') z (and_then ! (get ! refl) (and_then ! (get ! refl) (and_then ! (get ! refl) (and_then ! (get ! refl) (no_more !))))) (λ v.
    use1 𝓛 (later (given (v ≡ vunit) (‵ (flft κ q)))) (Gives-Gives Z 𝓛 𝓜.mem 𝓡.returns κ q p h b o n al τ v) $ await ! tt $ learn ! (λ e'. lands_as ! e' refl (tt, tt) $
    sets ! (addr ! (through ! refl (fld ! refl (stop !)))) refl (tt, tt) $ move ! (1 ∷ 0 ∷ []) $
    asks_cell u64 unit ! κ q (live_blocks_at Z r.ref_ptr) r.now.live_blocks
    (calls_at ! (framed 𝓤 𝓛.H 𝓜 𝓣) _ (counts.met 𝓤 𝓛 𝓜 𝓡 (code.calls-tests_support::refusing::count_given_back 𝓡.env wired)) _ (and_then ! (get ! refl) (no_more !))) (λ _. tt) (λ u _. feq_l ! (λ e''. lands_as ! (ap only e'') refl (tt, tt) $
    sets ! (of_opd ! (unit_lit !)) refl (tt, tt) $ returns ! (look_at ! 0 refl) $ free_all ! refl $
    suffices ! _ (ends_at 𝓛 S (stayed Z) c (y (block_ptr b o)) vunit tt (tt, (tt, (tt, (tt, tt)))) (tt, (tt, (tt, (tt, tt))))) $
    nothing ! $ feq_i ! (List Val) (vunit ∷ []) (vunit ∷ []) refl $ nothing ! $ nothing ! $ fjoin ! $ nothing ! $ fjoin ! $ nothing ! $ fjoin ! $ nothing ! $ fjoin ! $ join ! $
    move ! (2 ∷ 3 ∷ []) $ join ! $ join ! $ done !)))))))))
