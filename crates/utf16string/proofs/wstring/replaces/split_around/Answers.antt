use Rattle.std.proofs.Common.{◌≡◌, ◌∙◌, ◌+◌, append_assoc, ap, ap₂, sym, Some, ◌++◌}
use Rattle.utf16_units.specs.Boundary.{text_from, text_to}
use Rattle.utf16_units.specs.Encoding.{size}
use Rattle.utf16_units.proofs.BoundaryLemmas.{text_from-at}
use Rattle.utf16_str.specs.WStr.{wstr_text}
use Rattle.utf16string.proofs.Matches.{absent_match, found_match, from_match}
use Rattle.utf16string.proofs.wstring.replaces.split_around.Given.{Over}
use Rattle.utf16string.proofs.wstring.replaces.split_around.Goals as goal
use Rattle.utf16string.proofs.wstring.replaces.split_around.Goals.{After-split_at}

module _ (g : Over) (c : After-split_at g) where
  -- the text is what is before the match, the match, and what is after it
  around : wstr_text c.args.text
      ≡ text_to (wstr_text c.args.text) c.in_ok-at.at ++ (g.P.Pattern.part c.args.pattern ++ text_from (wstr_text c.args.text) (c.in_ok-at.at + size (g.P.Pattern.part c.args.pattern)))
  around =
      let text = wstr_text c.args.text in
      let part = g.P.Pattern.part c.args.pattern in
      c.in_ok-at.ensures.around ∙ append_assoc (text_to text c.in_ok-at.at) part (text_from text (c.in_ok-at.at + size part))

  -- what the text is from the match on
  on : wstr_text c.split_at.result.1 ≡ g.P.Pattern.part c.args.pattern ++ text_from (wstr_text c.args.text) (c.in_ok-at.at + size (g.P.Pattern.part c.args.pattern))
  on = c.split_at.ensures.back ∙ from_match (wstr_text c.args.text) (g.P.Pattern.part c.args.pattern) c.in_ok-at.at c.in_ok-at.ensures.first.0 around

pub returns-in_err-at : goal.returns-in_err-at
returns-in_err-at g c = rw c.from_residual.ensures (sym (absent_match (wstr_text c.args.text) (g.P.Pattern.part c.args.pattern) c.in_err-at.ensures.first))

pub split_at-requires : goal.split_at-requires
split_at-requires g c = c.in_ok-at.ensures.first.0.start

pub split_at-requires-2 : goal.split_at-requires-2
split_at-requires-2 g c =
    let at = (goal.at.split_at-requires-2 g c).After-split_at in
    record { front = g.P.Pattern.part c.args.pattern; back = _; split = sym (on g at); offset = sym c.encoded_len.ensures }

pub returns : goal.returns
returns g c =
    let at = (goal.at.returns g c).After-split_at in
    let part = g.P.Pattern.part c.args.pattern in
    let rest = text_from (wstr_text c.args.text) (c.in_ok-at.at + size part) in
    let same = c.split_at-2.ensures.back ∙ ap (λ t. text_from t c.encoded_len.result) (on g at) ∙ text_from-at part rest c.encoded_len.result (sym c.encoded_len.ensures) in
    ap₂ (λ x y. Some (x, y)) c.split_at.ensures.front same
    ∙ sym (found_match (wstr_text c.args.text) part c.in_ok-at.at c.in_ok-at.ensures.first (around g at))
