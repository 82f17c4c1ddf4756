use Rattle.std.proofs.Common.{None, Some, subst, sym}
use Rattle.std.proofs.lemmas.List.{take_rest}
use Rattle.memchr.specs.Find.{FindsNeedle}
use Rattle.utf16_bytes.proofs.FoundLemmas.{finds_none, finds_some}
use Rattle.utf16_bytes.proofs.bytes.find_bytes.Goals as goal

pub returns-in_err-found : goal.returns-in_err-found
returns-in_err-found c =
    let text = c.args.text.now in
    let pattern = c.args.finder.now in
    subst (FindsNeedle text pattern c.args.start) (sym c.from_residual.ensures)
    (finds_none text pattern c.args.start c.requires (subst (λ rest. FindsNeedle rest pattern 0 None) (take_rest text c.args.start) c.in_err-found.ensures))

pub returns : goal.returns
returns c =
    let text = c.args.text.now in
    let pattern = c.args.finder.now in
    let at = c.in_ok-found in
    finds_some text pattern c.args.start c.requires at.found (subst (λ rest. FindsNeedle rest pattern 0 (Some at.found)) (take_rest text c.args.start) at.ensures)
