use Rattle.std.proofs.Common.{◌∙◌, ap, arith, eq-eqb, length, sym, take}
use Rattle.std.proofs.lemmas.Bool.{eqb-true}
use Rattle.utf16_program.proofs.FollowLemmas.{pending_ill_formed, tail_none}
use Rattle.utf16_program.proofs.checker.Checker.finish.Goals as goal

pub returns-then-self-eq0-clause-well_formed : goal.returns-then-self-eq0-clause-well_formed
returns-then-self-eq0-clause-well_formed g c =
    let it = c.args.self in
    let pending = c.args.pending.now in
    let same = pending_ill_formed it.big_endian pending c.requires.pending it.unpaired in
    let none = tail_none pending in (
      λ yes. omega (arith, same, c.if-self-eq0.true, none.0 (eqb-true (length pending) 0 (sym c.is_empty.ensures ∙ yes))),
      λ no. c.is_empty.ensures ∙ eq-eqb (length pending) 0 (none.1 (omega (arith, same, no))),
    )

pub returns-in-Err-clause-err : goal.returns-in-Err-clause-err
returns-in-Err-clause-err g c =
    c.truncate.ensures.items ∙ ap (λ n. take n c.append_end.new.lines.items) (c.len-before.ensures ∙ c.args.lines.now.ok.0) ∙ c.append_end.ensures.kept
