use Rattle.std.proofs.Common.{◌+◌, ◌∙◌, arith, ap, ap₂, refl, sym, subst, take, length, length-set}
use Rattle.std.proofs.lemmas.List.{drop_more, take_all, take_more_set}
use Rattle.std.specs.List.{items_where_true}
use Rattle.std.specs.List.Retain.{ReturnsInTurn}
use Rattle.utf16string.specs.Retain.{Answers, MayBeAsked}
use Rattle.utf16string.proofs.Asked.{asked-more}
use Rattle.utf16string.proofs.PlainUnits.{bool_byte-below, length-kept-more}
use mir.Val.{bool_byte}
use Rattle.utf16string.proofs.retain_blocks.ask_each.Goals as goal

pub loop-i-preserved : goal.loop-i-preserved
loop-i-preserved g c =
    let at = c.loop-i.invariant in
    let here = drop_more c.args.units.now c.loop-i.i 0 (omega arith) in
    let may = subst (MayBeAsked g.F.FnMut c.loop-i.keep) here at.may in
    let call = subst (λ x. Answers g.F.FnMut c.loop-i.keep x c.keep-stays.result c.keep-stays.new.self) c.from_u32_unchecked.ensures c.keep-stays.ensures in
    let set = take_more_set c.loop-i.answers c.loop-i.i c.keep-stays.result (omega (arith, at.long)) in
    record {
      long = length-set c.loop-i.answers c.loop-i.i c.keep-stays.result ∙ at.long;
      asked = rw set (asked-more g.F.FnMut _ _ _ c.loop-i.answers c.args.units.now c.loop-i.i _ (omega (arith, at.long)) (omega arith) at.asked call);
      may = may.1 _ _ call;
      counted = rw set (ap (λ n. n + bool_byte c.keep-stays.result) at.counted ∙ sym (length-kept-more c.loop-i.answers c.args.units.now c.loop-i.i c.keep-stays.result (omega (arith, at.long)) (omega arith)));
      below = omega (arith, at.below, bool_byte-below c.keep-stays.result);
    }

pub returns-clause-asked : goal.returns-clause-asked
returns-clause-asked g c =
    let at = c.loop-i.invariant in (
      c.loop-i.answers,
      omega (arith, at.long),
      subst (λ l. ReturnsInTurn (Answers g.F.FnMut) c.args.keep.now l c.args.units.now c.loop-i.keep) (take_all c.loop-i.i c.loop-i.answers (omega (arith, at.long)))
          (subst (λ l. ReturnsInTurn (Answers g.F.FnMut) c.args.keep.now (take c.loop-i.i c.loop-i.answers) l c.loop-i.keep) (take_all c.loop-i.i c.args.units.now (omega arith)) at.asked),
      refl,
    )

pub returns-clause-many : goal.returns-clause-many
returns-clause-many g c =
    let at = c.loop-i.invariant in
    at.counted ∙ ap₂ (λ l m. length (items_where_true l m)) (take_all c.loop-i.i c.loop-i.answers (omega (arith, at.long))) (take_all c.loop-i.i c.args.units.now (omega arith))
