use Rattle.std.proofs.Common.{[], ◌∷◌, drop, sym, ap, ap₂, ◌∙◌}
use Rattle.std.proofs.lemmas.List.{take_rest}
use Rattle.std.specs.Cmp.{nat_cmp_total}
use Rattle.std.specs.Cmp.Lexicographic.{slice_cmp}
use Rattle.std.specs.Ordering.{nat_cmp}
use Rattle.utf16_units.specs.Split.{lossy_text}
use Rattle.utf16_units.proofs.TextOrderLemmas.{common_cmp}
use Rattle.utf16_bytes.proofs.order.compare_chars.Goals as goal

pub loop-c-preserved : goal.loop-c-preserved
loop-c-preserved g c =
    let here = c.in-Some-Some in
    let text = lossy_text g.E.Utf16Order.BIG in
    let other = lossy_text g.F.Utf16Order.BIG in
    c.loop-c.invariant
    ∙ ap₂ (slice_cmp nat_cmp) here.ensures.first (here.ensures'.first ∙ ap (λ d. d ∷ other (drop here.other_len c.loop-c.other.now)) (sym c.if-c-d.false))
    ∙ common_cmp nat_cmp_total (here.c ∷ []) (text (drop here.len c.loop-c.rest.now)) (other (drop here.other_len c.loop-c.other.now))
    ∙ sym (ap₂ (λ a b. slice_cmp nat_cmp (text a) (other b)) (take_rest c.loop-c.rest.now here.len) (take_rest c.loop-c.other.now here.other_len))
