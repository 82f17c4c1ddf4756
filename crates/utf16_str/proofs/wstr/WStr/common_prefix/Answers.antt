use Rattle.std.proofs.Common.{◌≡◌, ℕ, ◌∷◌, List, length, take, ap, sym, ◌∙◌, subst}
use Rattle.std.proofs.lemmas.List.{length-take, take_min}
use Rattle.utf16_str.specs.Common.{IsCommonPrefix}
use Rattle.utf16_str.specs.WStr.{wstr_text}
use Rattle.utf16_str.proofs.CommonLemmas.{IsShared, other_ahead, same_ahead, shared-all, shared-start, shared-step, shared-stop}
use Rattle.utf16_str.proofs.wstr.WStr.common_prefix.Goals as goal

own-length : (part whole : List ℕ) (n : ℕ) → part ≡ take n whole → part ≡ take (length part) whole
own-length part whole n e = e ∙ sym (take_min n whole) ∙ ap (λ k. take k whole) (sym (length-take n whole) ∙ ap length (sym e))

pub loop-at-init : goal.loop-at-init
loop-at-init g c = shared-start _ _ _ _ (c.into_iter-at-iterator.ensures.into_iter_gives ∙ c.char_indices-at-items.ensures.text) c.chars-theirs.ensures.text

pub loop-at-preserved : goal.loop-at-preserved
loop-at-preserved g c =
    let ahead = same_ahead c.next-in-loop-at.result c.in-Some.c _ _ (sym c.if-ne.false ∙ c.ne.ensures) c.next-in-loop-at.ensures.steps in
    shared-step _ _ _ _ c.in-Some.at c.in-Some.c
    (subst (λ items. IsShared (wstr_text c.args.self) (wstr_text c.args.other) items (c.in-Some.c ∷ c.next-in-loop-at.new.self)) c.in-Some.ensures.steps
    (subst (IsShared (wstr_text c.args.self) (wstr_text c.args.other) c.loop-at.at-iterator) ahead c.loop-at.invariant))

pub returns-then-ne-clause-text : goal.returns-then-ne-clause-text
returns-then-ne-clause-text g c =
    let ahead = other_ahead c.next-in-loop-at.result c.in-Some.c _ _ (sym c.if-ne.true ∙ c.ne.ensures) c.next-in-loop-at.ensures.steps in
    subst (IsCommonPrefix (wstr_text c.args.self) (wstr_text c.args.other)) (sym c.split_at.ensures.front)
    (shared-stop _ _ _ _ c.in-Some.at c.in-Some.c
    (subst (λ items. IsShared (wstr_text c.args.self) (wstr_text c.args.other) items c.loop-at.theirs) c.in-Some.ensures.steps c.loop-at.invariant) ahead)

pub returns-clause-text : goal.returns-clause-text
returns-clause-text g c =
    shared-all _ _ c.loop-at.theirs
    (subst (λ items. IsShared (wstr_text c.args.self) (wstr_text c.args.other) items c.loop-at.theirs) c.in-None.ensures.steps.0 c.loop-at.invariant)

pub returns-then-ne-clause-bytes : goal.returns-then-ne-clause-bytes
returns-then-ne-clause-bytes g c = own-length _ _ _ c.split_at.ensures.front_bytes
