use Rattle.std.proofs.Common.{◌-◌, ◌<◌, ◌≤◌, ◌∙◌, length, length-take-le, ap, arith, rules, subst}
use Rattle.utf16_units.proofs.FirstChar.{first_unit}
use Rattle.utf16_wtf8.specs.Wtf8.{generalized_utf8}
use Rattle.utf16_wtf8.proofs.ToWtf8Lemmas.{DecodesToWtf8-surrogate, surrogate_does_not_fit, surrogate_fits}
use Rattle.utf16_wtf8.proofs.direction.ToWtf8LossyDirection.write_ill_formed.Goals as goal

pub returns-in_err-written-clause-none : goal.returns-in_err-written-clause-none
returns-in_err-written-clause-none g c =
    let few = subst (λ unit. length c.write_code_point.new.to - 0 < length (generalized_utf8 unit)) c.read_unit-unit.ensures (c.write_code_point.ensures.none c.in_err-written.was) in
    let full = surrogate_does_not_fit g.E.Utf16Order.BIG c.args.input.now c.args._len (λ k. omega (arith, c.type_inv.input k)) c.requires.some c.requires.ill_formed
    (length c.write_code_point.new.to) (omega (arith, few)) in
    (λ none. full, λ full. search rules)

pub returns-clause-none : goal.returns-clause-none
returns-clause-none g c =
    let end = c.in_ok-written in
    let bytes = end.ensures.bytes ∙ ap generalized_utf8 c.read_unit-unit.ensures in
    let many : length (generalized_utf8 (first_unit g.E.Utf16Order.BIG c.args.input.now)) ≤ length c.write_code_point.new.to = omega (arith, ap length bytes, length-take-le end.written c.write_code_point.new.to end.ensures.within, end.ensures.within) in (
      λ none. absurd (cc),
      λ full. absurd (surrogate_fits g.E.Utf16Order.BIG c.args.input.now c.args._len (λ k. omega (arith, c.type_inv.input k)) c.requires.some c.requires.ill_formed _ many full),
    )

pub returns-clause-decodes : goal.returns-clause-decodes
returns-clause-decodes g c =
    DecodesToWtf8-surrogate g.E.Utf16Order.BIG c.args.input.now c.args._len (λ k. omega (arith, c.type_inv.input k)) c.requires.some c.requires.ill_formed
    c.write_code_point.new.to c.in_ok-written.written c.in_ok-written.ensures.within (c.in_ok-written.ensures.bytes ∙ ap generalized_utf8 c.read_unit-unit.ensures)
