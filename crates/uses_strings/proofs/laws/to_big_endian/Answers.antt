use Rattle.std.proofs.Common.{◌≡◌, ◌+◌, ◌++◌, ◌∷◌, [], ◌∙◌, ap, sym, arith, length, drop, slice_index, append-nil, append_assoc, false}
use Rattle.std.proofs.lemmas.List.{drop_all}
use Rattle.utf16_units.specs.Laws.{swap_bytes}
use Rattle.utf16_units.specs.Encoding.{size}
use Rattle.utf16_units.proofs.BackChar.{size-even}
use Rattle.utf16_units.proofs.EncodingLemmas.{length-encode}
use Rattle.utf16string.specs.WStr.{wstr_text}
use Rattle.uses_strings.proofs.KeyCut.{swap_bytes-at, swap_bytes-nil}
use Rattle.uses_strings.proofs.laws.to_big_endian.Goals as goal

pub loop-at-preserved : goal.loop-at-preserved
loop-at-preserved g c =
    let raw = c.as_bytes-raw.result.now in
    let at = c.loop-at.at in
    let two = slice_index raw (at + 1) ∷ slice_index raw at ∷ [] in
    let next = swap_bytes (drop (at + 2) raw) in
    record {
      within = omega arith;
      even = omega arith;
      swapped = ap (λ t. t ++ next) c.in_ok-extend_from_slice.ensures.items ∙ append_assoc c.loop-at.swapped.items two next
          ∙ ap (λ t. c.loop-at.swapped.items ++ t) (sym (swap_bytes-at raw at c.loop-at-test.true)) ∙ c.loop-at.invariant.swapped;
    }

pub returns : goal.returns
returns g c =
    let raw = c.as_bytes-raw.result.now in
    let text = wstr_text c.args.text in
    let encoding = c.as_bytes-raw.ensures.encoding in
    let long : length raw ≡ size text = ap length (sym encoding.spelled) ∙ length-encode false text in
    let even = size-even text in
    let done : drop c.loop-at.at raw ≡ [] = drop_all c.loop-at.at raw (omega arith) in
    let all = sym (append-nil c.loop-at.swapped.items) ∙ ap (λ t. c.loop-at.swapped.items ++ t) (sym (ap swap_bytes done ∙ swap_bytes-nil)) ∙ c.loop-at.invariant.swapped in
    record { scalars = encoding.scalars; spelled = c.swapped_orders.ensures false text ∙ ap swap_bytes encoding.spelled ∙ sym all }
