use Rattle.std.proofs.Common.{◌≡◌, ◌+◌, ◌-◌, ◌/◌, true, suc, drop, set, sym, ap, ◌∙◌, arith, length-set, length-drop, take_all}
use Rattle.std.proofs.lemmas.List.{drop_all}
use Rattle.std.specs.Fmt.{digits, digits_onto}
use Rattle.utf16_program.proofs.LineLemmas.{digit_before, digits_last, digits_step, fewer}
use Rattle.utf16_program.proofs.lines.hex.Goals as goal

pub loop-left-init : goal.loop-left-init
unfolding digits
loop-left-init c = (omega arith, omega arith, c.told-buffer, omega (arith, c.ranges.number.fits), ap (digits_onto 64 16 true c.args.number) (drop_all 16 c.args.buffer.now (omega (arith, c.told-buffer))))

pub loop-left-preserved : goal.loop-left-preserved
loop-left-preserved c =
    let l = c.loop-left in
    let more = fewer l.at l.left l.invariant.3 c.if-left-eq0.false in
    let places : 48 + l.at ≡ suc (48 + (l.at - 1)) = omega (arith, l.invariant.0) in (
      omega (arith, more.0),
      omega (arith, l.invariant.1),
      length-set l.buffer (l.at - 1) c.hex_digit.result ∙ l.invariant.2,
      more.1,
      ap (digits_onto (48 + (l.at - 1)) 16 true (l.left / 16)) (digit_before l.buffer l.at _ _ l.invariant.0 (omega (arith, l.invariant)) c.hex_digit.ensures)
          ∙ sym (digits_step (48 + (l.at - 1)) l.left (drop l.at l.buffer) c.if-left-eq0.false)
          ∙ ap (λ k. digits_onto k 16 true l.left (drop l.at l.buffer)) (sym places) ∙ l.invariant.4,
    )

pub returns-then-left-eq0 : goal.returns-then-left-eq0
returns-then-left-eq0 c =
    let l = c.loop-left in
    let text = set l.buffer (l.at - 1) c.hex_digit.result in
    take_all (16 - (l.at - 1)) (drop (l.at - 1) text) (omega (arith, length-drop (l.at - 1) text, length-set l.buffer (l.at - 1) c.hex_digit.result, l.invariant))
    ∙ digit_before l.buffer l.at _ _ l.invariant.0 (omega (arith, l.invariant)) c.hex_digit.ensures
    ∙ sym (digits_last (48 + l.at) l.left (drop l.at l.buffer) (omega arith) c.if-left-eq0.true) ∙ l.invariant.4
