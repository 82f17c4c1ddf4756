use Rattle.std.proofs.Common.{◌∙◌, ap, eq-eqb, eqb-true, length, rules, subst, sym}
use Rattle.std.proofs.iter.runs.Made.{run_of_exit}
use Rattle.std.proofs.lemmas.Bool.{false≢true}
use Rattle.std.specs.Str.{chars}
use Rattle.utf16string.specs.WString.{ExtendsStrs}
use Rattle.utf16string.proofs.Appended.{no_chars, no_text}
use Rattle.utf16_str.proofs.CutFront.{no_size}
use Rattle.utf16string.proofs.Joined.{joined-more, joined-none}
use Rattle.utf16string.proofs.wstring.extends.WStringExtendRefStr.extend.Goals as goal

pub loop-string-preserved-then-is_empty : goal.loop-string-preserved-then-is_empty
loop-string-preserved-then-is_empty g c =
    joined-none (λ s. chars s.now) c.args.self.now c.loop-string.yielded c.loop-string.self c.loop-string.self c.in-Some.string c.loop-string.invariant
    (no_text c.in-Some.string.now (eqb-true _ _ (sym c.is_empty.ensures ∙ c.if-is_empty.true)))

pub loop-string-preserved : goal.loop-string-preserved
loop-string-preserved g c =
    let put = c.in_ok-push_str.ensures in
    joined-more (λ s. chars s.now) c.args.self.now c.loop-string.yielded c.loop-string.self c.push_str.new.self c.in-Some.string c.loop-string.invariant put.text put.len put.grows
    (λ none. false≢true (sym c.if-is_empty.false ∙ c.is_empty.ensures ∙ eq-eqb _ _ (no_chars c.in-Some.string.now (search rules) (no_size _ none))))

pub returns-clause-runs : goal.returns-clause-runs
returns-clause-runs g c =
    let it = c.into_iter-string-iterator in
    let run = run_of_exit g.U.IntoIter.Iterator.next_gives it.result c.loop-string.yielded c.loop-string.string-iterator c.loop-string.yielded_by c.next.new.self c.in-None.ensures.steps in
    (it.result, it.ensures.into_iter_gives, (run.0, run.1, run.2, subst (λ items. ExtendsStrs c.args.self.now items c.loop-string.self) (sym run.3.0) c.loop-string.invariant.0))

pub returns-clause-stays : goal.returns-clause-stays
returns-clause-stays g c same = c.loop-string.invariant.3 (ap length same)
