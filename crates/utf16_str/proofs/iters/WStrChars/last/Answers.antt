use Rattle.std.proofs.Common.{◌≡◌, ◌-◌, ◌∷◌, ◌++◌, [], Option, None, Some, List, length, length-append, refl, sym, subst, arith}
use Rattle.std.specs.Iterator.{YieldsLast}
use Rattle.std.specs.List.{slice_get}
use Rattle.std.proofs.lemmas.List.{get_or_push}
use Rattle.std.proofs.lemmas.Option.{slice_get_read}
use Rattle.utf16_str.proofs.iters.WStrChars.last.Goals as goal

gives-last : {A : Type 0} (r : Option A) (s t : List A) → YieldsLast (λ (rest : List A). rest) s r t → r ≡ slice_get s (length s - 1)
gives-last None s t h = subst (λ items. None ≡ slice_get items (length items - 1)) (sym h.0) refl
gives-last (Some x) s t h =
    let long = length-append t (x ∷ []) in
    let items = t ++ x ∷ [] in
    subst (λ items. Some x ≡ slice_get items (length items - 1)) (sym h)
    (sym (slice_get_read items (length items) (length items - 1) x refl (omega (arith, long)) (sym (get_or_push t x x _ (omega (arith, long))))))

pub returns : goal.returns
returns g c = gives-last c.next_back.result c.args.self _ c.next_back.ensures.steps
