-- It passes the bytes on, and returns the result. Assumes `Logic`.
use Rattle.utf16_str.proofs.LentSteps.{[], ◌∷◌, length, refl, ap, proved, named, ty_enum, ttnil, full_share, ftrue, flft, id⊢, ⊑_static, Lfts, tables, ‵, raw, ◌⊛◌, some, later, ◌$◌, ◌∵◌, !, qed, move, keep, drop, split, join, fjoin, group, use1, use2, await, pick, suffices, done, whole, sub, agg, stop, fld, hop, from, addr, enter, returns, and_then, no_more, alloc_all, pass_all, free_all, look_at, look_in_at, get, get_in, sets, lands_as, lft_new, u8, SliceRefMutOf, no, arg, Laws, arg_laws, RattleType, owns, plain, MutSlice, Room, mut_slice_vals, mut_slice_Tells, nothing, only, calls_at, lasts, at_exit, triple_of, framed, Stays, stay_dropped, walk_of, ends_at, Goes-spent_slice}
use Rattle.utf16_units.specs.contracts.BigEndian as Order
use Rattle.utf16_units.proofs.BigEndian.TheLaws.{the_row_laws as the_order_laws}
use Rattle.utf16_units.specs.contracts.byte_order.BigEndianUtf16Order.TheImpl.{ghosts, dict}
use Rattle.utf16_units.proofs.byte_order.BigEndianUtf16Order.TheImpl.Met.{passed}
use Rattle.utf16_str.proofs.Lent.{Answer}
use Rattle.utf16_str.proofs.LentResults.{Ans, Ans-laws}
use Rattle.utf16_str.proofs.LentValues.{known, one_tells}
use Rattle.utf16_str.specs.contracts.wstr_mut.WStrMut+BigEndian.from_utf16be as F
use Rattle.utf16_str.specs.contracts.wstr_mut.WStrMut+BigEndian.from_utf16be.Key as key
use Rattle.utf16_str.proofs.wstr_mut.WStrMut+BigEndian.from_utf16be.Statement as stated
use Rattle.utf16_str.proofs.wstr_mut.WStrMut+BigEndian.from_utf16be.Code as code
use Rattle.utf16_str.specs.contracts.wstr_mut.WStrMut.from_utf16 as g
use Rattle.utf16_str.proofs.wstr_mut.WStrMut.from_utf16.Met as g-thm

abbrev Y : RattleType
Y = arg (ty_enum [] ttnil) no Order.the_row

Y-laws : Laws Y
Y-laws = arg_laws (ty_enum [] ttnil) no Order.the_row the_order_laws refl

abbrev stayed : Stays F.signature.params F.ended.kept
stayed = (stay_dropped (SliceRefMutOf (0 ∷ []) tt (plain (λ _. u8)) (λ _. tt)) no, tt)

pub from_utf16be_spec : {M : Type 1} → stated.statement M
from_utf16be_spec 𝓤 𝓛 𝓜 𝓡 wired =
    let c = F.clauses 𝓛 𝓜.mem 𝓡.returns in let W = walk_of 𝓛 F.ended stayed c in let 𝓣 = tables 𝓤 𝓛.H 𝓜 𝓡 𝓡.env in
    proved 𝓛 F.ended stayed c 𝓜 𝓡 (Goes-spent_slice 𝓛 1 (0 ∷ []) tt (plain (λ _. u8)), tt) key.name code.function (code.unfolded 𝓤 𝓛.H 𝓜 𝓡 wired)
    (λ κs. (mut_slice_vals, tt)) (λ κs. (mut_slice_Tells (named 0) κs.0 u8, tt)) (λ κs qs bounds a _ are.
    let κ = κs.0 in let r = a.0 in let room : Room u8 (length r.now) = are.0.0.1 in
    let y : W.Ghost = ((κs, qs, bounds, a, (mut_slice_vals r, tt)), tt) in
    let G = triple_of 𝓛 (g.signature Y ghosts dict) (g.spec Y ghosts dict 𝓛 𝓜.mem 𝓡.returns) in
    qed 𝓛 (((‵ (flft κ qs.0) ⊛ ‵ ftrue) ⊛ ‵ (owns (MutSlice (named 0) κ u8 ∷ []) a (mut_slice_vals r, tt))) ∷ ‵ ftrue ∷ []) ∵
    enter ! _ _ _ _ _ $ alloc_all ! (λ l. pass_all ! refl ((tt, (tt, (record { fits = room.0 }, tt))), tt) $
    sets ! (addr ! (from ! (fld ! refl (hop ! (look_in_at ! 1 (sub ! 0 refl (whole !))) (stop !))))) refl (tt, tt) $
    sets ! (agg ! (and_then ! (get ! refl) (and_then ! (get_in ! (fld ! refl (stop !)) (sub ! 1 refl (whole !))) (no_more !)))) refl (tt, (tt, (record { fits = room.0 }, tt))) $
    split ! $ split ! $ lft_new ! tt (λ α. let ρs : Lfts 2 = (κ, ((α ∷ []), tt)) in
    let z : G.Ghost = ((ρs, (qs.0, (full_share, tt)), tt, a, (mut_slice_vals r, tt)), tt) in
    -- [the new token; the token of κ; nothing; the bytes; nothing]
    move ! (1 ∷ 0 ∷ 2 ∷ 3 ∷ 4 ∷ []) $ group ! 3 $ join ! $ move ! (1 ∷ []) $ known ! (⊑_static (α ∷ [])) $ move ! (1 ∷ 0 ∷ []) $ use2 𝓛 (raw (G.pre z)) (id⊢ 𝓤 _) $
    calls_at ! (framed 𝓤 𝓛.H 𝓜 𝓣) G (g-thm.met 𝓤 𝓛 𝓜 𝓡 (code.calls-utf16_str::wstr_mut::WStrMut::from_utf16 𝓡.env wired) Y Y-laws ghosts dict
    (passed 𝓡.env (code.calls-utf16_units::byte_order::BigEndianUtf16Order::BIG 𝓡.env wired) (code.calls-utf16_units::byte_order::BigEndianUtf16Order::read_unit 𝓡.env wired) (code.calls-utf16_units::byte_order::BigEndianUtf16Order::write_unit 𝓡.env wired) _ 𝓤 𝓛 𝓜 𝓡)) z
    (and_then ! (get ! refl) (no_more !)) (λ v.
    let Ends = λ (x : Answer Y ghosts). raw ((c κs a).ensures tt x (at_exit F.ended κs a (tt, tt))) in
    use1 𝓛 (later (some (λ (x : Answer Y ghosts). ((‵ (flft κ qs.0) ⊛ ‵ (flft (α ∷ []) full_share) ⊛ ‵ ftrue) ⊛ ‵ ((Ans Y ghosts κ).own_val x (v ∷ []))) ⊛
    some (λ (ws : Unit {0} × Unit {0}). ‵ (lasts (g.ended Y ghosts dict) ρs a ws) ⊛ Ends x)))) (id⊢ 𝓤 _) $ await ! tt $ pick ! (λ x. split ! $ split ! $
    -- [the tokens; the result; what it says]
    move ! (1 ∷ []) $ one_tells ! (Ans Y ghosts κ) (Ans-laws Y ghosts Y-laws κ) x (v ∷ []) (λ w is typed. lands_as ! (ap only is) refl typed $ returns ! (look_at ! 0 refl) $ free_all ! refl $
    move ! (2 ∷ []) $ pick ! (λ ws. split ! $ drop ! $ move ! (2 ∷ []) $ split ! $ nothing ! $ move ! (1 ∷ 0 ∷ []) $ join ! $ keep ! (3 ∷ 0 ∷ 2 ∷ []) $
    nothing ! $ nothing ! $ fjoin ! $ join ! $ move ! (1 ∷ []) $ join ! $
    suffices ! _ (ends_at 𝓛 F.ended stayed c y w x (tt, tt) (tt, tt)) $ done !)))))))
