use Rattle.std.proofs.Common.{◌<◌, ◌-◌, ◌∙◌, ◌++◌, ap, drop, length, take, sym, arith, rules, subst}
use Rattle.std.proofs.lemmas.List.{take_more_set}
use Rattle.utf16_transcode.specs.Decodes.{utf16_split}
use Rattle.utf16_units.specs.Split.{lossy_text}
use Rattle.utf16_transcode.specs.Stops.{TextDoesNotFit, StopsPartial}
use Rattle.utf16_transcode.specs.declared.progress.Stop.TheVariants.{NoSpace}
use Rattle.utf16_transcode.proofs.ToUtf8Parts.{utf16_chunks}
use Rattle.utf16_transcode.proofs.WholeLemmas.{WritesWhole-decoded, WritesWhole-end, stops_whole}
use Rattle.utf16_fixed.specs.Utf32.{utf32_units}
use Rattle.utf16_fixed.proofs.LenLemmas.{to_utf32_lossy_fits}
use Rattle.utf16_fixed.proofs.LossyLemmas.{tail_is_too_long, tail_units}
use Rattle.utf16_fixed.proofs.decode_lossy.to_utf32_lossy.Given.{Over}
use Rattle.utf16_fixed.proofs.decode_lossy.to_utf32_lossy.Goals as goal
use Rattle.utf16_fixed.proofs.decode_lossy.to_utf32_lossy.Goals.{Then-front-to}

pub returns-in_default : goal.returns-in_default
returns-in_default g c =
    let big = g.E.Utf16Order.BIG in
    let front = c.write_decided-front in
    let shown = WritesWhole-decoded (utf16_split big) utf32_units (utf16_chunks big) _ _ _ _ front.ensures.decodes in
    let stop = stops_whole (utf16_split big) utf32_units (utf16_chunks big) _ _ _ c.in_default.not-Incomplete front.ensures.stop in
    record {
      shown = shown;
      stop = stop;
      between = λ full. front.ensures.decodes;
      succeeds = to_utf32_lossy_fits big _ _ _ _ _ (λ k. omega (arith, c.type_inv.raw k)) shown stop;
    }

-- U+FFFD does not fit
full : (g : Over) (c : Then-front-to g)
    → TextDoesNotFit utf32_units (lossy_text g.E.Utf16Order.BIG (drop c.write_decided-front.result.read c.args.raw.now))
    (length c.write_decided-front.new.to - c.write_decided-front.result.written)
full g c =
    let left = subst (StopsPartial (utf16_split g.E.Utf16Order.BIG) utf32_units _ _) c.in-Incomplete.is c.write_decided-front.ensures.stop in
    tail_is_too_long g.E.Utf16Order.BIG _ _ left.0 left.1 (omega (arith, c.if-front-to.true))

pub returns-then-front-to-clause-stop : goal.returns-then-front-to-clause-stop
returns-then-front-to-clause-stop g c = full g (goal.at.returns-then-front-to-clause-stop g c).Then-front-to

pub returns-then-front-to-clause-succeeds : goal.returns-then-front-to-clause-succeeds
returns-then-front-to-clause-succeeds g c =
    let big = g.E.Utf16Order.BIG in
    to_utf32_lossy_fits big _ _ _ _ NoSpace (λ k. omega (arith, c.type_inv.raw k))
    (WritesWhole-decoded (utf16_split big) utf32_units (utf16_chunks big) _ _ _ _ c.write_decided-front.ensures.decodes)
    (full g (goal.at.returns-then-front-to-clause-succeeds g c).Then-front-to)

pub returns-clause-shown : goal.returns-clause-shown
returns-clause-shown g c =
    let big = g.E.Utf16Order.BIG in
    let front = c.write_decided-front in
    let left = subst (StopsPartial (utf16_split big) utf32_units _ _) c.in-Incomplete.is front.ensures.stop in
    let room : front.result.written < length front.new.to = search rules in
    WritesWhole-end (utf16_split big) utf32_units (utf16_chunks big) _ _ _ _ front.ensures.decodes _ _ left.1 (search rules)
    (take_more_set front.new.to front.result.written 0xFFFD room ∙ ap (λ t. take front.result.written front.new.to ++ t) (sym (tail_units _ left.0)))
