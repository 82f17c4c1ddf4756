use Rattle.std.proofs.Common.{ap, arith, subst, take, ◌∙◌}
use Rattle.std.proofs.lemmas.List.{take_rest}
use Rattle.utf16_program.specs.Scans.{IsFront}
use Rattle.utf16_program.proofs.LineLemmas.{still_kept}
use Rattle.utf16_program.proofs.ScanLemmas.{Scanned-front, Scanned-lone, Scans-of, lone_fits, then_lone, then_tail}
use Rattle.utf16_program.proofs.scan.scan_in.Goals as goal

pub overflow_add-found : goal.overflow_add-found
overflow_add-found g c =
    let is = subst (λ b. IsFront g.E.Utf16Order.BIG b c.front_of-front.result) (take_rest c.args.bytes.now c.loop-unit.found.taken) c.front_of-front.ensures in
    let next = Scanned-front _ c.args.offset _ _ _ _ _ _ c.loop-unit.invariant.0 _ is in
    omega (arith, next.few, next.within)

pub returns-in_default-clause-found : goal.returns-in_default-clause-found
returns-in_default-clause-found g c =
    let is = subst (λ b. IsFront g.E.Utf16Order.BIG b c.front_of-front.result) (take_rest c.args.bytes.now c.loop-unit.found.taken) c.front_of-front.ensures in
    Scans-of _ _ _ _ _ _ (Scanned-front _ c.args.offset _ _ _ _ _ _ c.loop-unit.invariant.0 _ is) (then_tail _ c.args.offset _ _ _ _ _ _ c.loop-unit.invariant.0 _ is c.in_default.is)

pub returns-in-Err-clause-full : goal.returns-in-Err-clause-full
returns-in-Err-clause-full g c =
    let is = subst (λ b. IsFront g.E.Utf16Order.BIG b c.front_of-front.result) (take_rest c.args.bytes.now c.loop-unit.found.taken) c.front_of-front.ensures in
    let fits = lone_fits _ c.args.offset _ _ _ _ _ _ (Scanned-front _ c.args.offset _ _ _ _ _ _ c.loop-unit.invariant.0 _ is) _
    (then_lone _ c.args.offset _ _ _ _ _ _ c.loop-unit.invariant.0 _ is _ c.in-Some.is) in
    omega (arith, fits, c.in-Err.ensures.full, c.loop-unit.invariant.1, c.loop-unit.lines.ok.0, c.args.lines.now.ok.0)

pub returns-in-Err-clause-err : goal.returns-in-Err-clause-err
returns-in-Err-clause-err g c =
    c.truncate.ensures.items ∙ ap (λ n. take n c.append_unpaired.new.lines.items) (c.len-before.ensures ∙ c.args.lines.now.ok.0)
    ∙ still_kept c.args.lines.now.items c.loop-unit.lines.items c.append_unpaired.new.lines.items _ c.loop-unit.invariant.0.text c.append_unpaired.ensures.kept

pub loop-unit-preserved : goal.loop-unit-preserved
loop-unit-preserved g c =
    let is = subst (λ b. IsFront g.E.Utf16Order.BIG b c.front_of-front.result) (take_rest c.args.bytes.now c.loop-unit.found.taken) c.front_of-front.ensures in (
      Scanned-lone _ _ _ _ _ _ _ _ (Scanned-front _ c.args.offset _ _ _ _ _ _ c.loop-unit.invariant.0 _ is) _
          (then_lone _ c.args.offset _ _ _ _ _ _ c.loop-unit.invariant.0 _ is _ c.in-Some.is) _ c.in_default-append_unpaired.ensures.appended,
      omega (arith, c.loop-unit.invariant.1, c.append_unpaired.ensures.grows),
    )
