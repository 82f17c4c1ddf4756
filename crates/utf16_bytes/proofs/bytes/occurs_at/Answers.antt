use Rattle.std.proofs.Common.{sym, ◌∙◌}
use Rattle.std.proofs.lemmas.Bool.{false≢true}
use Rattle.std.proofs.lemmas.List.{take_rest}
use Rattle.utf16_bytes.proofs.FoundLemmas.{starts_at}
use Rattle.utf16_bytes.proofs.bytes.occurs_at.Goals as goal

pub returns-then-not-is_char_boundary : goal.returns-then-not-is_char_boundary
returns-then-not-is_char_boundary g c = (λ no. absurd (false≢true no), λ o. sym c.if-not-is_char_boundary.true ∙ c.is_char_boundary.ensures.1 o.start)

pub returns-then-not-starts_with : goal.returns-then-not-starts_with
returns-then-not-starts_with g c =
    let here = starts_at c.args.text.now c.args.pattern.now _ c.args.at c.starts_with.result (take_rest c.args.text.now c.args.at) c.starts_with.ensures.value in
    (λ no. absurd (false≢true no), λ o. sym c.if-not-starts_with.true ∙ here.1 o.bytes)

pub returns : goal.returns
returns g c =
    let here = starts_at c.args.text.now c.args.pattern.now _ c.args.at c.starts_with.result (take_rest c.args.text.now c.args.at) c.starts_with.ensures.value in (
      (λ yes. record {
        bytes = here.0 c.if-not-starts_with.false;
        start = c.is_char_boundary.ensures.0 c.if-not-is_char_boundary.false;
        end = c.is_char_boundary-2.ensures.0 yes;
      }),
      (λ o. c.is_char_boundary-2.ensures.1 o.end),
    )
