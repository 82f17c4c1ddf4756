use Rattle.std.proofs.Common.{◌∙◌, ◌++◌, ◌∷◌, [], ap, arith, length}
use Rattle.std.proofs.lemmas.Bool.{false≢true}
use Rattle.std.proofs.lemmas.Result.{on_ok_weaker}
use Rattle.utf16_units.specs.Encoding.{text_of}
use Rattle.utf16string.specs.WString.{wstring_text}
use Rattle.utf16_str.proofs.CutFront.{no_size}
use Rattle.utf16string.proofs.Replacing.{ahead-end, ahead-start, between-last, between-step, no-char, no-text, none-between, nothing-left}
use Rattle.utf16string.proofs.wstring.replaces.push_between.Goals as goal

pub returns-in_err-reserve_exact-clause-nothing : goal.returns-in_err-reserve_exact-clause-nothing
returns-in_err-reserve_exact-clause-nothing g c none =
    absurd (false≢true (c.in_err-reserve_exact.ensures.succeeds (omega (arith, c.len-len.ensures.size, no_size _ (no-text c.args.count _ _ none), c.args.made.now.raw.ok))))

pub loop-init : goal.loop-init
loop-init g c =
    let same = ap (text_of g.E.Utf16Order.BIG) c.reserve_exact.ensures.bytes in
    let held = c.args.made.now.raw.ok in (
      ahead-start [] _ _ _ _ _ c.args.count same c.chars-chars.ensures.text,
      (
        omega (arith, ap length same),
        λ none. c.in_ok-reserve_exact.ensures.exact ∙ omega (arith, c.len-len.ensures.size, no_size _ (no-text c.args.count _ _ none), held),
      ),
    )

pub returns-in_default : goal.returns-in_default
returns-in_default g c =
    let whole = between-last _ _ c.args.count c.loop.counter _ _ c.loop.invariant.0 (omega arith) c.in_default.ensures.steps.0 in
    record {
      text = c.in_ok-push_part.ensures.text ∙ whole;
      nothing = nothing-left _ _ _ _ _ _ _ c.loop.invariant.1 whole c.in_ok-push_part.ensures.nothing;
    }

pub returns-in_err-push_part-clause-nothing : goal.returns-in_err-push_part-clause-nothing
returns-in_err-push_part-clause-nothing g c none =
    let empty = none-between _ _ _ c.args.count c.loop.counter _ _ c.loop.invariant.0 (omega arith) c.loop.invariant.1.0 none in
    absurd (false≢true (c.in_err-push_part.ensures.nothing empty).0)

pub returns-in_err-push-clause-nothing : goal.returns-in_err-push-clause-nothing
returns-in_err-push-clause-nothing g c none =
    absurd (no-char _ _ _ c.args.count c.loop.counter _ _ c.loop.invariant.0 (omega arith) c.loop.invariant.1.0 none _ _ c.in-Some.ensures.steps)

pub loop-preserved : goal.loop-preserved
loop-preserved g c =
    between-step _ _ _ c.args.count c.loop.counter _ _ c.loop.invariant.0 (omega arith) _ _ _ c.loop.invariant.1 c.in-Some.c _ _ c.in-Some.ensures.steps
    (c.in_ok-push.ensures.text ∙ ap (λ t. t ++ c.in-Some.c ∷ []) c.in_ok-push_part.ensures.text)

pub returns : goal.returns
returns g c =
    let whole = ap (λ t. wstring_text c.loop.made ++ t) c.as_wstr.ensures ∙ ahead-end _ _ _ _ _ _ c.loop.invariant.0 (omega arith) in
    record {
      text = on_ok_weaker c.push_part-2.result (λ e. e ∙ whole) c.push_part-2.ensures.text;
      nothing = nothing-left _ _ _ _ _ _ _ c.loop.invariant.1 whole c.push_part-2.ensures.nothing;
    }
