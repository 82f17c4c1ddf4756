use Rattle.std.proofs.Common.{◌∙◌, eq-eqb, sym, subst, true≢false}
use Rattle.std.proofs.lemmas.Bool.{eqb-true}
use Rattle.utf16_program.specs.Lines.{Appends}
use Rattle.utf16_program.proofs.FollowLemmas.{no_pending, some_pending}
use Rattle.utf16_program.proofs.LineLemmas.{Appends-then}
use Rattle.utf16_program.proofs.checker.Checker.append_end.Goals as goal

pub returns-then-is_empty : goal.returns-then-is_empty
returns-then-is_empty g c =
    let it = c.args.self.now in
    subst (Appends _ _ _) (sym (no_pending it.big_endian c.args.pending.now c.requires.pending (eqb-true _ _ (sym c.is_empty.ensures ∙ c.if-is_empty.true)) it.offset it.chars it.unpaired)) c.append_counts.ensures

pub returns : goal.returns
returns g c =
    let it = c.args.self.now in
    let some = some_pending it.big_endian c.args.pending.now c.requires.pending (λ e. true≢false (sym (eq-eqb _ 0 e) ∙ sym c.is_empty.ensures ∙ c.if-is_empty.false)) it.offset it.chars it.unpaired in
    subst (Appends _ _ _) (sym some) (Appends-then _ _ _ _ _ _ c.in_ok-append_incomplete.ensures.appended c.in_ok-append_incomplete.ensures.grows c.append_counts-2.ensures)
