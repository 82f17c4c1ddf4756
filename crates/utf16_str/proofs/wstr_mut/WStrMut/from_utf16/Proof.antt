-- The bytes are passed to the test and back, and then kept in the view, or released as they are.
-- Assumes `Logic`.
use Rattle.utf16_str.proofs.LentSteps.{◌≡◌, ℕ, List, [], ◌∷◌, length, sym, refl, subst, lit<, MutBor, Ok, Err, proved, inst_fn, named, Val, of_list, id⊢, ftrue, flft, fact, tables, Wp, after_seq, at_return, live, vrt, in_variant, after, front, arm_body, Post, any_q, at_ret, ‵, raw, ◌⊛◌, some, later, ◌$◌, ◌∵◌, !, qed, move, keep, drop, split, join, use1, await, pick, rewrite, fjoin, suffices, done, prop, Sq, whole, sub, agg, stop, fld, hop, from, addr, enter, lit, of_opd, first, switches_on, exec, returns, and_then, no_more, alloc_all, pass_all, free_all, look_at, look_in_at, get, get_in, get_tag, sets, sets_last, lands_as, env, Room, mut_slice_vals, mut_slice_Tells, u8, plain, calls_at, lasts, triple_of, framed, walk_of, ends_at, Goes-spent_slice, GName, heard, nothing, Result, IsOk, IfErr, IfOk, true, ◌↔◌, Encodes-text_of, is_utf16-from_IsUtf16, wstr_mut_text, WStrMut, Encodes, IsUtf16, is_utf16, text_of, IsErrorOf, Utf16Error}
use Rattle.utf16_str.proofs.Lent.{Answer, Unchanged, view_val}
use Rattle.utf16_str.proofs.LentValues.{and_true, known}
use Rattle.utf16_str.proofs.LentResults.{Pair, args, stayed, tested_tells, Ans, made_view, left_as_it_was}
use Rattle.utf16_str.specs.contracts.wstr_mut.WStrMut.from_utf16 as F
use Rattle.utf16_str.specs.contracts.wstr_mut.WStrMut.from_utf16.Key as key
use Rattle.utf16_str.proofs.wstr_mut.WStrMut.from_utf16.Statement as stated
use Rattle.utf16_str.proofs.wstr_mut.WStrMut.from_utf16.Code as code
use Rattle.utf16_str.specs.contracts.wstr_mut.tested as g
use Rattle.utf16_str.proofs.wstr_mut.tested.Met as g-thm

pub from_utf16_spec : {M : Type 1} → stated.statement M
from_utf16_spec 𝓤 𝓛 𝓜 𝓡 wired Y L o d met =
    let S = F.ended Y o d in let c = F.clauses Y o d 𝓛 𝓜.mem 𝓡.returns in let W = walk_of 𝓛 S (stayed Y o d) c in
    let 𝓣 = tables 𝓤 𝓛.H 𝓜 𝓡 𝓡.env in let here = inst_fn (args Y o d) code.function in
    proved 𝓛 S (stayed Y o d) c 𝓜 𝓡 (Goes-spent_slice 𝓛 2 (0 ∷ []) tt (plain (λ _. u8)), tt)
    (key.name (args Y o d)) here (code.unfolded 𝓤 𝓛.H 𝓜 𝓡 wired (Y, tt) d)
    (λ κs. (mut_slice_vals, tt)) (λ κs. (mut_slice_Tells (named 0) κs.0 u8, tt)) (λ κs qs bounds a _ are.
    let κ = κs.0 in let r = a.0 in let Tokens = ‵ (flft κ qs.0) ⊛ ‵ (flft κs.1.0 qs.1.0) ⊛ ‵ ftrue in let room : Room u8 (length r.now) = are.0.0.1 in let count = room.0 in
    let G = triple_of 𝓛 (g.signature Y) (g.spec Y o d 𝓛 𝓜.mem 𝓡.returns) in
    let z : G.Ghost = ((κs, qs, bounds, a, (mut_slice_vals r, tt)), tt) in let y : W.Ghost = z in let Big = o.BIG in
    let ends : (v : Val) (res : Answer Y o) → (IsOk res ↔ IsUtf16 Big r.now) → IfOk res (λ s. s.raw.ghost_name ≡ r.ghost_name) → IfOk res (λ s. s.raw.now ≡ r.now)
    → IfOk res (λ s. Encodes Big (wstr_mut_text s) r.now) → IfErr res (IsErrorOf Big r.now) → Sq 𝓛 (‵ (Unchanged Y o r res) ∷ ‵ ((Ans Y o κ).own_val res (v ∷ [])) ∷ Tokens ∷ []) (prop (W.post y v)) =
    λ v res text same bytes encoding error. suffices ! _ (ends_at 𝓛 S (stayed Y o d) c y v res (tt, tt) (tt, tt)) $
    known ! error $ known ! encoding $ known ! bytes $ known ! same $ known ! text $ move ! (1 ∷ []) $ nothing ! $ nothing ! $ fjoin ! $ join ! $ move ! (2 ∷ []) $ join ! $ done ! in
    qed 𝓛 (raw (G.pre z) ∷ []) ∵ enter ! _ _ _ _ _ $ alloc_all ! (λ l. pass_all ! refl ((tt, (tt, (record { fits = count }, tt))), tt) $
    let E = env here.locals l in let Then : Post 𝓤 𝓛.H = any_q (after_seq 𝓤 𝓛.H (Wp 𝓤 𝓛.H 𝓣.C 𝓣.Λ E (after 4 here.body) (at_return 𝓤 𝓛.H E (W.post y))) (at_return 𝓤 𝓛.H E (W.post y))) in
    sets ! (addr ! (from ! (fld ! refl (hop ! (look_in_at ! 1 (sub ! 0 refl (whole !))) (stop !))))) refl (tt, tt) $
    sets ! (agg ! (and_then ! (get ! refl) (and_then ! (get_in ! (fld ! refl (stop !)) (sub ! 1 refl (whole !))) (no_more !)))) refl (tt, (tt, (record { fits = count }, tt))) $
    calls_at ! (framed 𝓤 𝓛.H 𝓜 𝓣) G (g-thm.met 𝓤 𝓛 𝓜 𝓡 (code.calls-utf16_str::wstr_mut::tested 𝓡.env wired) Y L o d (record { BIG = met.BIG; read_unit = met.read_unit; write_unit = met.write_unit })) z (and_then ! (get ! refl) (no_more !)) (λ v.
    use1 𝓛 (later (some (λ (x : Result (Unit {0}) Utf16Error × MutBor (List ℕ)). (Tokens ⊛ ‵ ((Pair κ).own_val x (v ∷ []))) ⊛
    some (λ (ws : Unit {0} × Unit {0}). ‵ (lasts (g.ended Y o d) κs a ws) ⊛ raw (fact 𝓤 (x.1.ghost_name ≡ r.ghost_name)) ⊛ raw (fact 𝓤 (x.1.now ≡ r.now)) ⊛
    raw (fact 𝓤 (IsOk x.0 ↔ IsUtf16 o.BIG r.now)) ⊛ raw (fact 𝓤 (IfErr x.0 (IsErrorOf o.BIG r.now))))))) (id⊢ 𝓤 _) $ await ! tt $ pick ! (λ x. split ! $ split ! $
    -- [the tokens; the pair; the facts]
    move ! (2 ∷ []) $ pick ! (λ ws. split ! $ drop ! $ split ! $ heard ! _ (λ same. split ! $ heard ! _ (λ kept. split ! $ heard ! _ (λ text. heard ! _ (λ error.
    move ! (1 ∷ []) $ tested_tells ! κ x.0 x.1 v
    (λ u w' fine is room' typed'. lands_as ! is refl (and_true _ (and_true _ typed'.0), ((record { fits = lit< tt }, (typed'.1, tt)), ((tt, (record { fits = room'.0 }, tt)), tt))) $
    first ! $ switches_on ! (get_tag ! (fld ! refl (vrt ! refl (fld ! refl (stop !)))) (sub ! 0 refl (whole !))) $ exec ! 𝓣.C 𝓣.Λ E (arm_body 0 (front (after 3 here.body))) Then $
    sets ! (of_opd ! (get_in ! (fld ! refl (stop !)) (sub ! 1 refl (whole !)))) refl (tt, (tt, (record { fits = room'.0 }, tt))) $
    sets ! (addr ! (from ! (fld ! refl (hop ! (look_in_at ! 2 (sub ! 0 refl (whole !))) (stop !))))) refl (tt, tt) $
    sets ! (agg ! (and_then ! (get ! refl) (and_then ! (get_in ! (fld ! refl (stop !)) (sub ! 1 refl (whole !))) (no_more !)))) refl (tt, (tt, (record { fits = room'.0 }, tt))) $
    sets ! (agg ! (no_more !)) refl (tt, tt) $ sets ! (agg ! (and_then ! (get ! refl) (and_then ! (get ! refl) (no_more !)))) refl (tt, ((tt, (record { fits = room'.0 }, tt)), (tt, tt))) $
    sets_last ! (agg ! (and_then ! (lit ! tt) (and_then ! (get ! refl) (no_more !)))) refl (tt, (record { fits = lit< tt }, (((tt, (record { fits = room'.0 }, tt)), (tt, tt)), tt))) $
    exec ! 𝓣.C 𝓣.Λ E (after 4 here.body) (at_ret E (W.post y)) $ sets ! (of_opd ! (get ! refl)) refl (tt, (record { fits = lit< tt }, (((tt, (record { fits = room'.0 }, tt)), (tt, tt)), tt))) $
    returns ! (look_at ! 0 refl) $ free_all ! refl $ keep ! (1 ∷ 2 ∷ []) $
    let is_text_too = text.0 (subst IsOk (sym fine) refl) in
    let s : WStrMut Y.Denot o = record { raw = x.1; order = record {}; well_formed = subst (λ (ys : List ℕ). is_utf16 Big ys ≡ true) (sym kept) (is_utf16-from_IsUtf16 _ _ is_text_too) } in
    made_view Y o 𝓛 ! κ s $
    rewrite ! 0 (λ (p : GName × List ℕ). ‵ (Unchanged Y o (record { ref_ptr = r.ref_ptr; ghost_name = p.0; now = p.1 }) (Ok s))) (λ i. (same i, kept i)) refl $
    ends (live 0 (of_list (view_val Y o x.1 ∷ []))) (Ok s) ((λ _. is_text_too), (λ _. refl)) same kept (subst (λ (ys : List ℕ). Encodes Big (text_of Big ys) r.now) (sym kept) (Encodes-text_of _ _ is_text_too)) tt)
    (λ e w' fault is room' typed'. lands_as ! is refl (and_true _ (and_true _ typed'.0), ((record { fits = lit< tt }, (typed'.1, tt)), ((tt, (record { fits = room'.0 }, tt)), tt))) $
    first ! $ switches_on ! (get_tag ! (fld ! refl (vrt ! refl (fld ! refl (stop !)))) (sub ! 0 refl (whole !))) $ exec ! 𝓣.C 𝓣.Λ E (arm_body 1 (front (after 3 here.body))) Then $
    sets ! (of_opd ! (get_in ! (fld ! refl (vrt ! refl (fld ! refl (stop !)))) (in_variant ! 1 0 refl refl (sub ! 0 refl (whole !))))) refl typed' $
    sets_last ! (agg ! (and_then ! (lit ! tt) (and_then ! (get ! refl) (no_more !)))) refl (and_true _ typed'.0, (record { fits = lit< tt }, (typed'.1, tt))) $
    exec ! 𝓣.C 𝓣.Λ E (after 4 here.body) (at_ret E (W.post y)) $ sets ! (of_opd ! (get ! refl)) refl (and_true _ typed'.0, (record { fits = lit< tt }, (typed'.1, tt))) $
    returns ! (look_at ! 0 refl) $ free_all ! refl $ keep ! (0 ∷ 1 ∷ 2 ∷ []) $ left_as_it_was Y o 𝓛 ! κ x.1 e w' $
    rewrite ! 0 (λ (p : GName × List ℕ). ‵ (Unchanged Y o (record { ref_ptr = r.ref_ptr; ghost_name = p.0; now = p.1 }) (Err e))) (λ i. (same i, kept i)) refl $
    ends (live 1 (of_list (w' ∷ []))) (Err e) (subst (λ (q : Result (Unit {0}) Utf16Error). IsOk q ↔ IsUtf16 Big r.now) fault text) tt tt tt (subst (λ (q : Result (Unit {0}) Utf16Error). IfErr q (IsErrorOf Big r.now)) fault error)))))))))))
