use Rattle.std.proofs.Common.{◌∙◌, ◌++◌, ◌+◌, ◌-◌, ap, arith, sym}
use Rattle.std.proofs.lemmas.Bool.{false≢true}
use Rattle.std.proofs.lemmas.Result.{on_ok_weaker}
use Rattle.utf16_str.specs.WStr.{wstr_text}
use Rattle.utf16string.specs.Replace.{replaced_first}
use Rattle.utf16string.proofs.Replacing.{ahead-end, ahead-next, ahead-none, longer, no-before, no-to, nothing-left}
use Rattle.utf16string.proofs.wstring.replaces.push_around.Goals as goal

pub returns-in_default : goal.returns-in_default
returns-in_default g c =
    let whole = ahead-none _ _ _ c.args.count c.loop.counter _ _ c.loop.invariant.0 (omega arith) c.requires (sym c.in_default.ensures) in
    record {
      text = on_ok_weaker c.push_part.result (λ e. e ∙ whole) c.push_part.ensures.text;
      nothing = nothing-left _ _ _ _ _ _ _ c.loop.invariant.1 whole c.push_part.ensures.nothing;
    }

pub loop-preserved : goal.loop-preserved
loop-preserved g c =
    let next = ahead-next _ _ _ c.args.count c.loop.counter _ _ c.loop.invariant.0 (omega arith) c.requires _ _ (sym c.in-Some.ensures) in
    let grown = c.loop.invariant.1 in
    let before = c.in_ok-push_part.ensures in
    let to = c.in_ok-push_part-2.ensures in (
      ap (λ t. t ++ replaced_first (c.args.count - (c.loop.counter + 1)) (g.P.Pattern.part c.args.from) (wstr_text c.args.to) (wstr_text c.in-Some.after))
          (to.text ∙ ap (λ t. t ++ wstr_text c.args.to) before.text)
          ∙ next,
      (
        longer _ _ _ _ (longer _ _ _ _ grown.0 before.text) to.text,
        λ none. (to.nothing (no-to _ _ _ grown.0 none _ _ _ next)).1 ∙ (before.nothing (no-before _ _ _ grown.0 none _ _ _ next)).1 ∙ grown.1 none,
      ),
    )

pub returns : goal.returns
returns g c =
    let whole = ahead-end _ _ _ _ _ _ c.loop.invariant.0 (omega arith) in
    record {
      text = on_ok_weaker c.push_part-2.result (λ e. e ∙ whole) c.push_part-2.ensures.text;
      nothing = nothing-left _ _ _ _ _ _ _ c.loop.invariant.1 whole c.push_part-2.ensures.nothing;
    }

pub returns-in_err-push_part-clause-nothing : goal.returns-in_err-push_part-clause-nothing
returns-in_err-push_part-clause-nothing g c none =
    let next = ahead-next _ _ _ c.args.count c.loop.counter _ _ c.loop.invariant.0 (omega arith) c.requires _ _ (sym c.in-Some.ensures) in
    absurd (false≢true (c.in_err-push_part.ensures.nothing (no-before _ _ _ c.loop.invariant.1.0 none _ _ _ next)).0)

pub returns-in_err-push_part-2-clause-nothing : goal.returns-in_err-push_part-2-clause-nothing
returns-in_err-push_part-2-clause-nothing g c none =
    let next = ahead-next _ _ _ c.args.count c.loop.counter _ _ c.loop.invariant.0 (omega arith) c.requires _ _ (sym c.in-Some.ensures) in
    absurd (false≢true (c.in_err-push_part-2.ensures.nothing (no-to _ _ _ c.loop.invariant.1.0 none _ _ _ next)).0)
