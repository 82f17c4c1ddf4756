-- It returns `Err` if `refuses` says so, and otherwise what the inner allocator returns, and counts
-- a block. Assumes `Logic`.
use Rattle.tests_support.proofs.Steps.{◌≡◌, true, false, [], ◌∷◌, Ok, Err, refl, sym, subst, ap, T, w64, after, front, arm_body, Al, token, Answer, answer_val, Answer-typed, Answer-Ok, Answer-err, Takes, at_takes, Answered, Takes-goes, Takes-gives, answers, proved, block_if_ok, ftrue, flft, ◌⊑◌, ⊑_trans, fact, tables, bool, u64, unit, usize, yes, layout, uint_vals, uint_Tells, owns, block_ptr, shr_vals, plain, types_at, heard, nothing, only, calls_at, calls_at_last, framed, walk_of, ends_at, Goes-dropped, inst_fn, Val, vint, has_ty, WT, size, align, capped, Wp, after_seq, at_return, alloc_all, pass_all, free_all, look_at, get, get_tag, through, sets, lands_as, lands_last, env, Sq, Post, ‵, raw, ◌⊛◌, later, prop, any_q, at_ret, ◌$◌, ◌∵◌, !, qed, move, drop, use0, use1, use2, split, join, fjoin, feq_l, suffices, await, done, vrt, agg, whole, stop, fld, lit, addr, of_opd, no_more, and_then, first, branches, skips, switches_on, exec, returns, returns_within, enter}
use Rattle.tests_support.proofs.AtCell.{asks_cell, asks_sized}
use Rattle.tests_support.proofs.Walks.{args, self, kept, inner_at, plan_at, live_blocks_at, starts}
use Rattle.tests_support.specs.contracts.refusing.Plan as PL
use Rattle.tests_support.proofs.refusing.refuses.Met as refuses
use Rattle.tests_support.proofs.refusing.count_taken.Met as counts
use Rattle.tests_support.specs.contracts.refusing.RefusingAllocator.allocate as F
use Rattle.tests_support.specs.contracts.refusing.RefusingAllocator.allocate.Key as key
use Rattle.tests_support.proofs.refusing.RefusingAllocator.allocate.Statement as stated
use Rattle.tests_support.proofs.refusing.RefusingAllocator.allocate.Code as code

pub allocate_spec : {M : Type 1} → stated.statement M
allocate_spec 𝓤 𝓛 𝓜 𝓡 wired Y L g d d' met _ =
    let Z : Al = record { row = Y; laws = L; g = g; d = d; drops = d' } in
    let S = F.ended Y g d d' in let c = F.clauses Y g d d' 𝓛 𝓜.mem 𝓡.returns in let W = walk_of 𝓛 S (kept Z) c in
    let 𝓣 = tables 𝓤 𝓛.H 𝓜 𝓡 𝓡.env in let here = inst_fn (args Z) code.function in
    let number = Goes-dropped 𝓛 2 (plain (λ _. usize)) yes (λ κs x f. refl) in
    proved 𝓛 S (kept Z) c 𝓜 𝓡 (Goes-dropped 𝓛 2 (self Z) yes (λ κs x f. refl), (number, (number, tt)))
    (key.name (args Z)) here (code.unfolded 𝓤 𝓛.H 𝓜 𝓡 wired (Y, tt) d d')
    (λ κs. (shr_vals, (uint_vals w64, (uint_vals w64, tt)))) (λ κs. ((λ r vs s. s.0), (uint_Tells w64, (uint_Tells w64, tt)))) (λ κs qs bounds a τ are.
    let κ = κs.0 in let q = qs.0 in let r = a.0 in let n = a.1.0 in let al = a.1.1.0 in let h = r.now.inner in
    let y : W.Ghost = ((κs, qs, bounds, a, (shr_vals r, (vint w64 n ∷ [], (vint w64 al ∷ [], tt)))), τ) in
    let Said : Type 0 = (capped (size τ) ≡ n) × (capped (align τ) ≡ al) in let Tokens = ‵ (flft κs.1.0 qs.1.0) ⊛ ‵ ftrue in
    let ends : (v : Val) (res : Answer.Denot) → Sq 𝓛 (‵ (Answer.own_val res (v ∷ [])) ∷ ‵ (block_if_ok (token Z h) τ res) ∷ ‵ (flft κ q) ∷ Tokens ∷ []) (prop (W.post y v)) = λ v res.
    suffices ! _ (ends_at 𝓛 S (kept Z) c y v res (tt, (tt, (tt, tt))) (tt, (tt, (tt, tt)))) $
    nothing ! $ nothing ! $ fjoin ! $ nothing ! $ fjoin ! $ nothing ! $ fjoin ! $ join ! $ move ! (2 ∷ 3 ∷ []) $ join ! $ join ! $ done ! in
    let fails : Sq 𝓛 (‵ (flft κ q) ∷ Tokens ∷ []) (prop (W.post y (answer_val false 0 0))) =
    nothing ! $ use0 𝓛 (‵ (Answer.own_val (Err (record {})) (answer_val false 0 0 ∷ []))) (Answer-err 𝓛) $ ends (answer_val false 0 0) (Err (record {})) in
    qed 𝓛 (((‵ (flft κ q) ⊛ Tokens) ⊛ ‵ (owns (types_at S.signature.params κs) a y.0.4)) ∷ (raw (fact 𝓤 (κs.1.0 ⊑ Y.lives)) ⊛ raw (fact 𝓤 Said)) ∷ []) ∵
    starts Z ! (λ le. move ! (5 ∷ []) $ heard ! Said (λ said. move ! (1 ∷ 3 ∷ []) $
    -- [the `&` to the plan; the token of κ; the `&` to the inner allocator and to the count; the
    -- other tokens]
    enter ! _ _ _ _ _ $ alloc_all ! (λ l. pass_all ! refl ((tt, tt), ((tt, record { fits = are.1.0.1 }), ((tt, record { fits = are.1.1.0.1 }), tt))) $
    let E = env here.locals l in sets ! (addr ! (through ! refl (fld ! refl (stop !)))) refl (tt, tt) $
    asks_sized PL.the_row bool ! κ q (plan_at Z r.ref_ptr) r.now.plan n are.1.0.1
    (calls_at ! (framed 𝓤 𝓛.H 𝓜 𝓣) _ (refuses.met 𝓤 𝓛 𝓜 𝓡 (code.calls-tests_support::refusing::refuses 𝓡.env wired)) _ (and_then ! (get ! refl) (and_then ! (get ! refl) (no_more !)))) (λ _. tt) (λ u t. feq_l ! (λ et. lands_as ! (ap only et) refl (tt, tt) $
    first ! $ branches ! (get ! refl) (λ refused. move ! (1 ∷ 2 ∷ []) $ drop ! $ drop ! $
    sets ! (agg ! (no_more !)) refl (tt, tt) $ sets ! (agg ! (and_then ! (lit ! tt) (and_then ! (get ! refl) (no_more !)))) refl (Answer-typed false 0 0) $
    returns_within ! (W.post y) refl (look_at ! 0 refl) $ free_all ! refl $ fails)
    (λ passed. skips ! $ exec ! 𝓣.C 𝓣.Λ E (after 3 here.body) (at_ret E (W.post y)) $
    sets ! (addr ! (through ! refl (fld ! refl (stop !)))) refl (tt, tt) $ move ! (1 ∷ 0 ∷ []) $
    let G = Takes Z 𝓛 𝓜.mem 𝓡.returns in let p = inner_at Z r.ref_ptr in let z : G.Ghost = at_takes Z 𝓛 𝓜.mem 𝓡.returns κ q p h n al τ in
    use2 𝓛 (raw (G.pre z)) (Takes-goes Z 𝓛 𝓜.mem 𝓡.returns κ q p h (⊑_trans κ κs.1.0 Y.lives bounds.0 le) n al τ said.0 said.1 are.1.0.1 are.1.1.0.1) $
    calls_at ! (framed 𝓤 𝓛.H 𝓜 𝓣) G (met.allocate d') z (and_then ! (get ! refl) (and_then ! (get ! refl) (and_then ! (get ! refl) (no_more !)))) (λ v.
    use1 𝓛 (later (raw (Answered Z 𝓛 𝓜.mem 𝓡.returns h τ v) ⊛ ‵ (flft κ q))) (Takes-gives Z 𝓛 𝓜.mem 𝓡.returns κ q p h n al τ v) $ await ! tt $ split ! $
    -- [the result; the token of κ; the `&` to the count; the other tokens]
    let Then : Post 𝓤 𝓛.H = any_q (after_seq 𝓤 𝓛.H (Wp 𝓤 𝓛.H 𝓣.C 𝓣.Λ E (after 6 here.body) (at_return 𝓤 𝓛.H E (W.post y))) (at_return 𝓤 𝓛.H E (W.post y))) in
    answers Z ! 𝓜.mem 𝓡.returns h τ v (λ b o e. fjoin ! $ lands_as ! e refl (Answer-typed true b o) $
    first ! $ switches_on ! (get_tag ! (vrt ! refl (fld ! refl (stop !))) (whole !)) $ exec ! 𝓣.C 𝓣.Λ E (arm_body 0 (front (after 5 here.body))) Then $
    sets ! (addr ! (through ! refl (fld ! refl (stop !)))) refl (tt, tt) $ move ! (2 ∷ 1 ∷ []) $
    asks_cell u64 unit ! κ q (live_blocks_at Z r.ref_ptr) r.now.live_blocks (calls_at_last ! (framed 𝓤 𝓛.H 𝓜 𝓣) _ (counts.met 𝓤 𝓛 𝓜 𝓡 (code.calls-tests_support::refusing::count_taken 𝓡.env wired)) _ (and_then ! (get ! refl) (no_more !))) (λ _. tt) (λ w _. feq_l ! (λ ew.
    lands_last ! refl (subst (λ (x : Val). T (has_ty (layout unit) x) × WT x) (sym (ap only ew)) (tt, tt)) $
    exec ! 𝓣.C 𝓣.Λ E (after 6 here.body) (at_ret E (W.post y)) $ sets ! (of_opd ! (get ! refl)) refl (Answer-typed true b o) $ returns ! (look_at ! 0 refl) $ free_all ! refl $
    move ! (1 ∷ []) $ use0 𝓛 (‵ (Answer.own_val (Ok (block_ptr b o)) (answer_val true b o ∷ []))) (Answer-Ok 𝓛 b o) $ ends (answer_val true b o) (Ok (block_ptr b o)))))
    (λ e. move ! (1 ∷ []) $ drop ! $ lands_as ! e refl (Answer-typed false 0 0) $
    first ! $ switches_on ! (get_tag ! (vrt ! refl (fld ! refl (stop !))) (whole !)) $ exec ! 𝓣.C 𝓣.Λ E (arm_body 1 (front (after 5 here.body))) Then $ skips ! $
    exec ! 𝓣.C 𝓣.Λ E (after 6 here.body) (at_ret E (W.post y)) $ sets ! (of_opd ! (get ! refl)) refl (Answer-typed false 0 0) $ returns ! (look_at ! 0 refl) $ free_all ! refl $ fails)))))))))
