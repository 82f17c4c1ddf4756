use Rattle.std.proofs.Common.{◌≡◌, ◌+◌, ◌-◌, ap, arith, drop, drop-drop, length, length-drop, take_all, ◌∙◌}
use Rattle.utf16_to_utf8.proofs.padded.last_bytes.Goals as goal

pub returns-clause-last : goal.returns-clause-last
returns-clause-last c =
    let raw = c.args.raw.now in
    let skipped = 16 - c.args.len in
    let start = length raw - 16 in
    let here : start + skipped ≡ length raw - c.args.len = omega (arith, c.requires.few, c.if-raw-lt16.false) in
    c.moved_front.ensures.front ∙ ap (drop skipped) (take_all 16 (drop start raw) (omega (arith, length-drop start raw, c.if-raw-lt16.false)))
    ∙ drop-drop skipped start raw ∙ ap (λ n. drop n raw) here
