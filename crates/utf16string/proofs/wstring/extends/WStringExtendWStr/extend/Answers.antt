use Rattle.std.proofs.Common.{◌+◌, ◌∙◌, ap, arith, length, subst, sym}
use Rattle.std.proofs.iter.runs.Made.{run_of_exit}
use Rattle.std.proofs.lemmas.Bool.{false≢true}
use Rattle.std.proofs.lemmas.Result.{err_from_is_err_and}
use Rattle.utf16_str.specs.WStr.{wstr_text}
use Rattle.utf16_units.specs.Encoding.{text_of}
use Rattle.utf16_units.proofs.EncodingLemmas.{IsUtf16-from_is_utf16, length-text}
use Rattle.utf16string.specs.WString.{ExtendsViews, wstring_bytes}
use Rattle.utf16string.proofs.Appended.{refused}
use Rattle.utf16string.proofs.Joined.{joined-more, joined-none}
use Rattle.utf16string.proofs.wstring.extends.WStringExtendWStr.extend.Goals as goal

pub loop-text-preserved-then-is_empty : goal.loop-text-preserved-then-is_empty
loop-text-preserved-then-is_empty g c =
    joined-none wstr_text c.args.self.now c.loop-text.yielded c.loop-text.self c.loop-text.self c.in-Some.text c.loop-text.invariant (c.is_empty.ensures.empty.0 c.if-is_empty.true)

pub loop-text-preserved : goal.loop-text-preserved
loop-text-preserved g c =
    let put = c.in_ok-push_wstr.ensures in
    let long = length-text _ _ (IsUtf16-from_is_utf16 _ _ c.in-Some.text.well_formed) in
    joined-more wstr_text c.args.self.now c.loop-text.yielded c.loop-text.self c.push_wstr.new.self c.in-Some.text c.loop-text.invariant put.text
    (put.len ∙ ap (λ n. length (wstring_bytes c.loop-text.self) + n) long) put.grows (λ none. false≢true (sym c.if-is_empty.false ∙ c.is_empty.ensures.empty.1 none))

pub returns-clause-runs : goal.returns-clause-runs
returns-clause-runs g c =
    let it = c.into_iter-text-iterator in
    let run = run_of_exit g.U.IntoIter.Iterator.next_gives it.result c.loop-text.yielded c.loop-text.text-iterator c.loop-text.yielded_by c.next.new.self c.in-None.ensures.steps in
    (it.result, it.ensures.into_iter_gives, (run.0, run.1, run.2, subst (λ items. ExtendsViews c.args.self.now items c.loop-text.self) (sym run.3.0) c.loop-text.invariant.0))

pub returns-clause-stays : goal.returns-clause-stays
returns-clause-stays g c same = c.loop-text.invariant.3 (ap length same)

pub returns-in_err-push_wstr-clause-err : goal.returns-in_err-push_wstr-clause-err
returns-in_err-push_wstr-clause-err g c =
    let it = c.into_iter-text-iterator in
    let left = c.in_err-push_wstr.ensures in
    let long = length-text _ _ (IsUtf16-from_is_utf16 _ _ c.in-Some.text.well_formed) in
    let appended = ap (text_of g.E.Utf16Order.BIG) left.err.0 ∙ c.loop-text.invariant.0 in
    rw (err_from_is_err_and c.from_residual.result c.from_residual.ensures.1).1
    (it.result, it.ensures.into_iter_gives, (c.loop-text.yielded, c.in-Some.text, c.next.new.self, (c.loop-text.text-iterator, c.loop-text.yielded_by, c.in-Some.ensures.steps), appended, omega (arith, refused _ _ left.succeeds, ap length left.err.0, left.err.1, long)))
